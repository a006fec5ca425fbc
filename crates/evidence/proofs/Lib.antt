-- Laws about the definitions of specs/.
pub mod Walks
pub mod Rows
pub mod Told
pub mod Within
pub mod Units
pub mod Looked
pub mod Stopped
pub mod Shown
pub mod Stages
pub mod Exact
pub mod Cut
pub mod Parts
pub mod First
pub mod Padded
pub mod OneShown

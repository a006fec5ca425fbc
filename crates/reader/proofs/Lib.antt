-- Laws about the definitions of specs/.
pub mod Places
pub mod Roles
pub mod Lengths
pub mod Stages
pub mod Exact
pub mod Cut
pub mod Accepted
pub mod Marking
pub mod OneKind
pub mod Passbooks

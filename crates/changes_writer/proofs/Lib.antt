-- Laws about the definitions of specs/.
pub mod Built
pub mod Ready
pub mod Counts
pub mod Items
pub mod Closing
pub mod Holding
pub mod Exact
pub mod Laid
pub mod Proper

-- The laws of `specs/Starts.antt`: the list while segments enter, where a node ends, its counts, and from node to node.
pub mod Entering
pub mod Nodes
pub mod Counting
pub mod Onward

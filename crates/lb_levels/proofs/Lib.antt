pub mod Nodes
pub mod Tables
pub mod FaultOrder
pub mod SpanTables
pub mod Overlaps
pub mod NoFault
pub mod Depth
pub mod Together

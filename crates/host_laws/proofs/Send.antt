pub mod DispatchDeterminism
pub mod HopsByLists

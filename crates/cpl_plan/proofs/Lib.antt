mod Broken
mod BrokenOrders
pub mod ExampleOrder
pub mod FactsTold
pub mod FirstStep
pub mod FixedWindows
pub mod LooksThrough
pub mod MadeWindows
pub mod Owners
pub mod Partners
pub mod PlanNodesOnce
pub mod Readings

pub mod ConfigOfPlan
pub mod PlanNames
pub mod PlanSchemes
pub mod PlanTables
pub mod Renaming
pub mod Unnamed

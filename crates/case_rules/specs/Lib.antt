pub mod CaseRules
pub mod SolverCase
pub mod SuitedCases

pub mod TermLaws
pub mod Variables
pub mod Staying
pub mod Covariates

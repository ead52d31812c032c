pub mod PlanRows
pub mod Parts
pub mod Laws

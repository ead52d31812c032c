pub mod PlanTables

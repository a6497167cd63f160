pub mod TextPlan
pub mod inside

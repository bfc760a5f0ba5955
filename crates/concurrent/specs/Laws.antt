-- What the definitions of this crate are worth.

-- where a decided step leads
pub mod Leading

-- The calls for programs in C.

-- the numbers of answers in a lent array
pub mod Numbers

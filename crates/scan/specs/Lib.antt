-- Rules 5 to 7, in loops over a body's tokens.

-- a body as a row of tokens
pub mod Tokens
-- what these are worth
pub mod Laws

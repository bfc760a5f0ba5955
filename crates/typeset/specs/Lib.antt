-- Sets pieces of text one after the other, into a lent buffer and against a text.

-- what setting bytes does
pub mod Page

-- Rules 1 to 4: the trailer, the records and the bodies of a table.

-- what the code finds out about a table's shape: rules 1 to 4
pub mod Shapes

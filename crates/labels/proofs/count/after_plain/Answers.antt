-- `count::after_plain` meets its contract.
use Rattle.labels.proofs.Counting.{plain_ways}
use Rattle.labels.proofs.count.after_plain.Goals as goal

pub bounds-t-at-in-37 : goal.bounds-t-at-in-37
bounds-t-at-in-37 c = search plain_ways

pub returns-in-32 : goal.returns-in-32
returns-in-32 c = search plain_ways

pub returns-in-33 : goal.returns-in-33
returns-in-33 c = search plain_ways

pub returns-in-34 : goal.returns-in-34
returns-in-34 c = search plain_ways

pub returns-in-37 : goal.returns-in-37
returns-in-37 c = search plain_ways

pub returns-in_default : goal.returns-in_default
returns-in_default c = search plain_ways

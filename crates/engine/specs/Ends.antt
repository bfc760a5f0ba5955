-- How a run ends, as the code says it.
use Rattle.engine.specs.declared.ends.End as E
use Rattle.engine.specs.declared.ends.End.TheVariants.{Finished, UsedUp, Blocked, Spent}
use Rattle.semantics.specs.Threads.{End, finished, used, blocked, spent}

-- the end that the code's enum is
abbrev pub end_of : E.End → End
end_of Finished = finished
end_of UsedUp = used
end_of (Blocked r) = blocked r
end_of Spent = spent

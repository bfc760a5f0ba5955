-- `concurrent::anew::clear_frames` meets its contract: the first frames of the threads before `i` are clear.
use Rattle.std.proofs.Common.{◌≤◌}
use Rattle.concurrent.specs.Anew.{FramesClear}
use Rattle.concurrent.proofs.anew.clear_frames.Given as goal

abbrev pub invariant-loop-i : goal.invariant-loop-i
invariant-loop-i l = FramesClear l.i l.words × (l.i ≤ l.threads)

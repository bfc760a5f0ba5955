-- Where the readers of the code end: the definitions of Decode, by positions.
use Rattle.std.specs.Prelude.{ℕ, ◌-◌, ◌≡◌, List, Bool, true, false, length, get_or, drop, leb, Option, Some, None}
use Rattle.value.specs.Maybe.{is, nothing, ◌>>=◌, when}
use Rattle.format.specs.Syntax.{Kind, concurrent, sequential}
use Rattle.format.specs.Decode.{Read, times, max_depth, max_nesting}
use Rattle.format.specs.Decode as D
use Rattle.format.specs.Rules.{Here, allowed, allowed_i}
use Rattle.format.specs.Rules as R
use Rattle.basics.specs.declared.numbers.Limits.{Limits}
use Rattle.parse.specs.declared.Kind as K
use Rattle.parse.specs.declared.Kind.TheVariants.{Concurrent, Sequential}
use Rattle.parse.specs.declared.Context.{Context}

-- the position at which what was read of t ends
abbrev pub end_of : {A : Type 0} → List ℕ → Read A → Option ℕ
end_of t nothing = None
end_of t (is got) = Some (length t - length got.1)

-- what was read, if it passes a test
abbrev pub check : {A : Type 0} → (A → Bool) → (A × List ℕ) → Read A
check ok got = when (ok got.0) (is got)

-- ---- what each reader answers

-- an expression at most d deep, from i on
pub record ReadsExpr (t : List ℕ) (i d : ℕ) (r : Option ℕ) : Type 0 where
  pub same : r ≡ end_of t (D.expr d (drop i t))

-- n expressions at most 16 deep, where i is not past the end
pub record ReadsValues (t : List ℕ) (i n : ℕ) (r : Option ℕ) : Type 0 where
  pub same : r ≡ end_of t (when (leb i (length t)) (times (D.expr max_depth) n (drop i t)))

-- an instruction whose blocks are at most d deep, and that is allowed there
pub record ReadsInstr (t : List ℕ) (i d : ℕ) (h : Here) (r : Option ℕ) : Type 0 where
  pub same : r ≡ end_of t (D.instr (D.block d) (drop i t) >>= check (allowed_i h))

-- a block at most d deep, whose instructions are allowed there
pub record ReadsBlock (t : List ℕ) (i d : ℕ) (h : Here) (r : Option ℕ) : Type 0 where
  pub same : r ≡ end_of t (D.block d (drop i t) >>= check (allowed h))

-- the body of procedure m, from i on
pub record BodyReads (k : Kind) (t : List ℕ) (i m : ℕ) (r : Option ℕ) : Type 0 where
  pub reads : ReadsBlock t i max_nesting (record { kind = k; proc = m; inside = false }) r

-- an instruction that holds no block
pub record ReadsPlain (t : List ℕ) (i : ℕ) (h : Here) (r : Option ℕ) : Type 0 where
  pub gives : (d : ℕ) → (get_or t i 0 ≡ 0x23 → ⊥) → (get_or t i 0 ≡ 0x24 → ⊥) → (get_or t i 0 ≡ 0x26 → ⊥) → ReadsInstr t i d h r

-- ---- where the code stands

-- the language
abbrev pub kind_of : K.Kind → Kind
kind_of Concurrent = concurrent
kind_of Sequential = sequential

-- the bounds of a kind as the paper names them
abbrev pub limits_of : Limits → R.Limits
limits_of l = record {
  bytes = l.bytes;
  procs = l.procedures;
  places = l.locations;
  fewest = l.fewest;
  threads = l.threads;
  locals = l.locals;
  cells = l.cells;
}

-- the language, the procedure, and inside an atomic block or not
abbrev pub here_of : Context → Here
here_of c = record { kind = kind_of c.kind; proc = c.procedure; inside = c.inside }

-- inside an atomic block that stands there
abbrev pub inside_of : Here → Here
inside_of h = record { kind = h.kind; proc = h.proc; inside = true }

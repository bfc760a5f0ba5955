-- Runs of two small programs, worked by hand from document 01, "The two machines": what each call answers and leaves in its buffers. The starred
-- cases are in crate `agreement`, Worked.
use Rattle.std.specs.Prelude.{ℕ, ◌≡◌, refl, List, [], ◌∷◌, ◌++◌, true, false, replicate, pos, negsuc}
use Rattle.value.specs.Maybe.{is, nothing}
use Rattle.value.specs.Try.{Try, has, lacks}
use Rattle.value.specs.Values.{not, neg, add, sub, less, equal, and}
use Rattle.value.specs.declared.Reason.TheVariants.{OutOfRange, WrongKind, IndexOutside, FinishedThread}
use Rattle.value.specs.declared.Value.TheVariants.{Whole, Location, Truth}
use Rattle.format.specs.Syntax.{Expr, constant, local, one, two, Instr, assign, write, read, while, if, call, atomic, select}
use Rattle.format.specs.Syntax.{Block, end, step, Proc, Program, Plain, concurrent, sequential}
use Rattle.format.specs.Encode.{table}
use Rattle.semantics.specs.Memory.{Env, eval, evals, writing}
use Rattle.semantics.specs.Step.{Moved}
use Rattle.semantics.specs.Threads.{used, blocked, first_instr}
use Rattle.semantics.specs.Copy.{Config, Next, ended, goes, choose}
use Rattle.semantics.specs.Buffers.{cells, event_bytes}
use Rattle.semantics.specs.Calls.{Outcome, scheduled, concurrent_call, plain_call, sequential_call}

-- an instruction, then a block
infixr 55 ◌then◌
abbrev ◌then◌ : Instr Plain → Block Plain → Block Plain
i then b = step tt i b

-- the number n
abbrev num : ℕ → Expr
num n = constant (Whole (pos n))

-- n bytes of a lent buffer
abbrev lent : ℕ → List ℕ
lent n = replicate n 9

-- a run's end, steps, unused entries, events and reason; its cells; the event buffer
abbrev told : ℕ → ℕ → ℕ → ℕ → ℕ → List ℕ → List ℕ → Outcome
told how taken left count why cs es =
    record { answer = record { number = 0; end = how; steps = taken; unused = left; events = count; reason = why }; cells = cs; events = es }

-- a refusal
abbrev refused : ℕ → List ℕ → List ℕ → Outcome
refused n cs es = record { answer = record { number = n; end = 0; steps = 0; unused = 0; events = 0; reason = 0 }; cells = cs; events = es }

-- ---- bytes

-- "thread .., 0 read or 1 write, location (2), index (2), value (5 ..)"; "the last two being the label of the step"
pub an_event : event_bytes (record { thread = 3; way = writing; place = 258; index = 5; value = Whole (negsuc 1); label = 399 })
    ≡ 3 ∷ 1 ∷ 2 ∷ 1 ∷ 5 ∷ 0 ∷ 1 ∷ 254 ∷ 255 ∷ 255 ∷ 255 ∷ 143 ∷ 1 ∷ []
an_event = refl

-- "Final cells are written as such values, in location order"
pub some_cells : cells ((Whole (pos 6) ∷ Location 7 ∷ []) ∷ (Truth true ∷ []) ∷ [])
    ≡ 1 ∷ 6 ∷ 0 ∷ 0 ∷ 0 ∷ 2 ∷ 7 ∷ 0 ∷ 0 ∷ 0 ∷ 4 ∷ 0 ∷ 0 ∷ 0 ∷ 0 ∷ []
some_cells = refl

-- ---- the concurrent run

-- two threads: p := location 0, of size 2; v := p[1] (label 2); p[1] := v - 1
abbrev E : Program Plain
E = record {
  procs =
      record {
        params = 0;
        locals = 2;
        body =
            assign 0 (constant (Location 0)) then
            read 1 0 (num 1) then
            write 0 (num 1) (two sub (local 1) (num 1)) then
            end;
      }
      ∷ [];
  sizes = 2 ∷ [];
  mains = 0 ∷ 0 ∷ [];
}

-- E under a schedule, with twelve bytes for its two cells and 25 for events
abbrev run_e : List ℕ → Outcome
run_e ts = concurrent_call (table concurrent E) ts (lent 12) (lent 25)

-- a fresh cell
abbrev zero_cell : List ℕ
zero_cell = 1 ∷ 0 ∷ 0 ∷ 0 ∷ 0 ∷ []

-- a cell with -1
abbrev low_cell : List ℕ
low_cell = 1 ∷ 255 ∷ 255 ∷ 255 ∷ 255 ∷ []

-- an event: thread, 0 read or 1 write, location, index, value, label
abbrev logged : ℕ → ℕ → ℕ → ℕ → List ℕ → ℕ → List ℕ
logged t way l i v j = t ∷ way ∷ l ∷ 0 ∷ i ∷ 0 ∷ v ++ (j ∷ 0 ∷ [])

-- thread t reads number 0 at index 1
abbrev read_by : ℕ → List ℕ
read_by t = logged t 0 0 1 zero_cell 2

-- THE CONCURRENT RUN: "A finished thread .. blocks"; "unused entries are counted, a blocking one among them"; "Events that fit whole are written,
-- later ones only counted"; "All other bytes stay"
pub concurrent_runs :
    (run_e (0 ∷ 0 ∷ 0 ∷ 0 ∷ 0 ∷ 1 ∷ 1 ∷ []) ≡ told 2 4 3 2 4 (zero_cell ++ (low_cell ++ lent 2)) (read_by 0 ++ lent 12))
    × (run_e (1 ∷ 1 ∷ []) ≡ told 1 2 0 1 0 (zero_cell ++ (zero_cell ++ lent 2)) (read_by 1 ++ lent 12))
    × ((run_e (1 ∷ 1 ∷ 1 ∷ 0 ∷ 1 ∷ 0 ∷ 0 ∷ 0 ∷ 0 ∷ [])).answer ≡ (told 0 8 1 4 0 [] []).answer)
concurrent_runs = (refl, refl, refl)

-- "schedule over 4,096 entries, or (concurrent) an entry not below T"; "cell buffer shorter than 5 bytes a cell"; "A refusal .. writes nothing"
pub concurrent_refusals :
    (run_e (0 ∷ 2 ∷ []) ≡ refused 11 (lent 12) (lent 25))
    × (run_e (replicate 4097 0) ≡ refused 11 (lent 12) (lent 25))
    × (scheduled concurrent E (replicate 4096 1) ≡ true)
    × (concurrent_call (table concurrent E) [] (lent 9) (lent 25) ≡ refused 12 (lent 9) (lent 25))
    × (concurrent_call (table sequential E) (2 ∷ []) (lent 9) (lent 25) ≡ refused 1 (lent 9) (lent 25))
concurrent_refusals = (refl, refl, refl, refl, refl)

-- ---- the sequential run

-- x := location 1, of size 2; x[1] := 5; select(location 0, location 1); x[0] := true
abbrev S : Program Plain
S = record {
  procs =
      record {
        params = 0;
        locals = 1;
        body =
            assign 0 (constant (Location 1)) then
            write 0 (num 1) (num 5) then
            select 0 1 then
            write 0 (num 0) (constant (Truth true)) then
            end;
      }
      ∷ [];
  sizes = 1 ∷ 2 ∷ [];
  mains = [];
}

-- S with a budget, events of locations below h, a schedule, and room for its three cells and two events
abbrev run_s : ℕ → ℕ → List ℕ → Outcome
run_s n h ts = sequential_call n h (table sequential S) ts (lent 15) (lent 26)

-- thread t writes into location 1, in procedure 0
abbrev write_by : ℕ → ℕ → List ℕ → List ℕ
write_by t i v = logged t 1 1 i v 0

-- number 5
abbrev five : List ℕ
five = 1 ∷ 5 ∷ 0 ∷ 0 ∷ 0 ∷ []

-- true
abbrev yes : List ℕ
yes = 4 ∷ 0 ∷ 0 ∷ 0 ∷ 0 ∷ []

-- the cells before select
abbrev before : List ℕ
before = zero_cell ++ (zero_cell ++ five)

-- the cells at the end, 1 selected
abbrev last : List ℕ
last = 1 ∷ 1 ∷ 0 ∷ 0 ∷ 0 ∷ yes ++ five

-- THE SEQUENTIAL RUN: "thread (sequential: last selected, 0 before)"; "records only locations below h"; "Before each step a run is judged finished,
-- at its budget, used up (select and no entry), blocked, in this order"; select "else .. blocks and takes none"; "return (procedure 0's too)"
pub sequential_runs :
    (run_s 5 2 (1 ∷ 7 ∷ []) ≡ told 0 5 1 2 0 last (write_by 0 1 five ++ write_by 1 0 yes))
    × (run_s 5 1 (1 ∷ 7 ∷ []) ≡ told 0 5 1 0 0 last (lent 26))
    × (run_s 4 1 (1 ∷ 7 ∷ []) ≡ told 3 4 1 0 0 last (lent 26))
    × (run_s 2 1 [] ≡ told 3 2 0 0 0 before (lent 26))
    × (run_s 3 1 [] ≡ told 1 2 0 0 0 before (lent 26))
    × (run_s 2 1 (0 ∷ []) ≡ told 3 2 1 0 0 before (lent 26))
    × (run_s 3 1 (0 ∷ []) ≡ told 2 2 1 0 4 before (lent 26))
    × (run_s 3 1 (2 ∷ []) ≡ told 2 2 1 0 3 before (lent 26))
sequential_runs = (refl, refl, refl, refl, refl, refl, refl, refl)

-- an entry need not be below a count of threads
pub sequential_refusals :
    (scheduled sequential S (replicate 4096 255) ≡ true)
    × (scheduled sequential S (replicate 4097 255) ≡ false)
    × (sequential_call 5 1 (table sequential S) [] (lent 14) [] ≡ refused 12 (lent 14) [])
sequential_refusals = (refl, refl, refl)

-- ---- labels in events

-- procedure 0, and procedure 1 with parameter p: p[0] := true
abbrev calling : Block Plain → List (Proc Plain)
calling b =
    record { params = 0; locals = 2; body = b }
    ∷ record { params = 1; locals = 1; body = write 0 (num 0) (constant (Truth true)) then end }
    ∷ []

-- p := location 0, of size 2 (label 1); atomic: v := p[0]; if v = 0 then p[1] := 7 (2); call 1 with p (3). Procedure 1 has label 5
abbrev L : Program Plain
L = record {
  procs = calling
      (assign 0 (constant (Location 0)) then
      atomic (read 1 0 (num 0) then if (two equal (local 1) (num 0)) (write 0 (num 1) (num 7) then end) end then end) then
      call 1 (local 0 ∷ []) then
      end);
  sizes = 2 ∷ [];
  mains = 0 ∷ [];
}

-- "the label of the step; inside an atomic block it is the block's label"; "whole events only": of 25 bytes one is written, of 12 none
pub labels_of_events :
    let seven : List ℕ = 1 ∷ 7 ∷ 0 ∷ 0 ∷ 0 ∷ [] in
    let run : List ℕ → Outcome = concurrent_call (table concurrent L) (replicate 6 0) (lent 10) in
    (run (lent 39) ≡ told 0 6 0 3 0 (yes ++ seven) (logged 0 0 0 0 zero_cell 2 ++ logged 0 1 0 1 seven 2 ++ logged 0 1 0 0 yes 5))
    × (run (lent 25) ≡ told 0 6 0 3 0 (yes ++ seven) (logged 0 0 0 0 zero_cell 2 ++ lent 12))
    × (run (lent 12) ≡ told 0 6 0 3 0 (yes ++ seven) (lent 12))
labels_of_events = (refl, refl, refl)

-- THE PLAIN RUN: "the same end, reason, cells, counts and events (0 in their label bytes)"
pub plain_run :
    let seven : List ℕ = 1 ∷ 7 ∷ 0 ∷ 0 ∷ 0 ∷ [] in
    let run : List ℕ → Outcome = plain_call (table concurrent L) (replicate 6 0) (lent 10) in
    (run (lent 39) ≡ told 0 6 0 3 0 (yes ++ seven) (logged 0 0 0 0 zero_cell 0 ++ logged 0 1 0 1 seven 0 ++ logged 0 1 0 0 yes 0))
    × (run (lent 25) ≡ told 0 6 0 3 0 (yes ++ seven) (logged 0 0 0 0 zero_cell 0 ++ lent 12))
    × (plain_call (table concurrent L) (0 ∷ 1 ∷ []) (lent 10) (lent 39) ≡ refused 11 (lent 10) (lent 39))
plain_run = (refl, refl, refl)

-- x := location 0, of size 1; x[0] := 5; call 1 with x; y := x[0]
abbrev R : Program Plain
R = record {
  procs = calling
      (assign 0 (constant (Location 0)) then write 0 (num 0) (num 5) then call 1 (local 0 ∷ []) then read 1 0 (num 0) then end);
  sizes = 1 ∷ [];
  mains = [];
}

-- "The sequential machine writes the number of the procedure it is in, which for procedure 0 is 0": before a call, in it and after its return
pub procedures_of_events :
    sequential_call 9 1 (table sequential R) [] (lent 5) (lent 40)
    ≡ told 0 7 0 3 0 yes (logged 0 1 0 0 five 0 ++ logged 0 1 0 0 yes 1 ++ logged 0 0 0 0 yes 0 ++ lent 1)
procedures_of_events = refl

-- ---- why there is no value

-- 2,147,483,648, which is no value
abbrev large : Expr
large = two add (num 2147483647) (num 1)

-- true
abbrev yes_expr : Expr
yes_expr = constant (Truth true)

-- not 0, which is none by its kind
abbrev wrong : Expr
wrong = one not (num 0)

-- p is location 0, v is 0, and the third local is not set
abbrev ρ : Env
ρ = is (Location 0) ∷ is (Whole (pos 0)) ∷ nothing ∷ []

-- EXPRESSIONS: left before right, kind before range, `equal` any kind on its left, the first argument without a value
pub reasons_of_expressions :
    (eval ρ large ≡ lacks OutOfRange)
    × (eval ρ wrong ≡ lacks WrongKind)
    × (eval ρ (two equal yes_expr large) ≡ lacks OutOfRange)
    × (eval ρ (two add yes_expr large) ≡ lacks WrongKind)
    × (eval ρ (two add large yes_expr) ≡ lacks OutOfRange)
    × (eval ρ (two and (num 0) large) ≡ lacks WrongKind)
    × (eval ρ (two and yes_expr large) ≡ lacks OutOfRange)
    × (eval ρ (two and yes_expr (num 0)) ≡ lacks WrongKind)
    × (eval ρ (two less (num 0) wrong) ≡ lacks WrongKind)
    × (eval ρ (two equal (num 0) yes_expr) ≡ lacks WrongKind)
    × (eval ρ (two add (num 2147483647) (local 0)) ≡ lacks WrongKind)
    × (eval ρ (one neg (constant (Whole (negsuc 2147483647)))) ≡ lacks OutOfRange)
    × (eval ρ (one neg yes_expr) ≡ lacks WrongKind)
    × (eval ρ (one not large) ≡ lacks OutOfRange)
    × (eval ρ (local 2) ≡ lacks WrongKind)
    × (evals ρ (num 0 ∷ large ∷ wrong ∷ []) ≡ lacks OutOfRange)
    × (evals ρ (num 0 ∷ wrong ∷ large ∷ []) ≡ lacks WrongKind)
reasons_of_expressions = (refl, refl, refl, refl, refl, refl, refl, refl, refl, refl, refl, refl, refl, refl, refl, refl, refl)

-- false
abbrev no_expr : Expr
no_expr = constant (Truth false)

-- AND: "a false left side gives false and the right side isn't evaluated. If the left side is true the rule stays"; nested both ways, in an operand
pub ands :
    (eval ρ (two and no_expr yes_expr) ≡ has (Truth false))
    × (eval ρ (two and no_expr large) ≡ has (Truth false))
    × (eval ρ (two and no_expr wrong) ≡ has (Truth false))
    × (eval ρ (two and no_expr (num 0)) ≡ has (Truth false))
    × (eval ρ (two and no_expr (local 0)) ≡ has (Truth false))
    × (eval ρ (two and yes_expr no_expr) ≡ has (Truth false))
    × (eval ρ (two and yes_expr yes_expr) ≡ has (Truth true))
    × (eval ρ (two and yes_expr wrong) ≡ lacks WrongKind)
    × (eval ρ (two and large no_expr) ≡ lacks OutOfRange)
    × (eval ρ (two and (num 0) no_expr) ≡ lacks WrongKind)
    × (eval ρ (two and (two and (two and yes_expr no_expr) large) wrong) ≡ has (Truth false))
    × (eval ρ (two and yes_expr (two and no_expr (two and large wrong))) ≡ has (Truth false))
    × (eval ρ (two and yes_expr (two and yes_expr (two and large no_expr))) ≡ lacks OutOfRange)
    × (eval ρ (one not (two and no_expr large)) ≡ has (Truth true))
    × (eval ρ (two equal no_expr large) ≡ lacks OutOfRange)
ands = (refl, refl, refl, refl, refl, refl, refl, refl, refl, refl, refl, refl, refl, refl, refl)

-- an instruction there, where location 0 has size 1 and there is one procedure
abbrev at_once : Instr ℕ → Try (Moved ℕ)
at_once i = first_instr (record { params = 2; locals = 2; body = end } ∷ []) 0 1 ρ 1 i end [] ((Whole (pos 0) ∷ []) ∷ [])

-- INSTRUCTIONS: "a write judges the value, then the index expression, then the pointer, then the index against the size; a read does the same without
-- a value; a call judges its arguments in order"; an atomic block has the reason of the first instruction in it that blocks
pub reasons_of_instructions :
    (at_once (assign 1 large) ≡ lacks OutOfRange)
    × (at_once (write 0 wrong large) ≡ lacks OutOfRange)
    × (at_once (write 0 large wrong) ≡ lacks WrongKind)
    × (at_once (write 1 large (num 0)) ≡ lacks OutOfRange)
    × (at_once (write 1 (num 1) (num 0)) ≡ lacks WrongKind)
    × (at_once (write 0 (num 1) (num 0)) ≡ lacks IndexOutside)
    × (at_once (write 0 (constant (Whole (negsuc 0))) yes_expr) ≡ lacks IndexOutside)
    × (at_once (write 1 (constant (Whole (negsuc 0))) yes_expr) ≡ lacks WrongKind)
    × (at_once (write 0 yes_expr large) ≡ lacks OutOfRange)
    × (at_once (read 1 1 large) ≡ lacks OutOfRange)
    × (at_once (read 1 0 yes_expr) ≡ lacks WrongKind)
    × (at_once (read 1 1 (num 1)) ≡ lacks WrongKind)
    × (at_once (read 1 0 (num 1)) ≡ lacks IndexOutside)
    × (at_once (read 1 1 (constant (Whole (negsuc 0)))) ≡ lacks WrongKind)
    × (at_once (while large end) ≡ lacks OutOfRange)
    × (at_once (while (num 0) end) ≡ lacks WrongKind)
    × (at_once (if wrong end end) ≡ lacks WrongKind)
    × (at_once (if (num 1) end end) ≡ lacks WrongKind)
    × (at_once (call 0 (large ∷ wrong ∷ [])) ≡ lacks OutOfRange)
    × (at_once (call 0 (wrong ∷ large ∷ [])) ≡ lacks WrongKind)
    × (at_once (atomic (step 0 (assign 1 (num 1)) (step 0 (write 0 (local 1) (num 0)) (step 0 (assign 1 wrong) end)))) ≡ lacks IndexOutside)
    × (at_once (atomic (step 0 (if yes_expr (step 0 (assign 1 large) end) end) (step 0 (assign 1 wrong) end))) ≡ lacks OutOfRange)
reasons_of_instructions =
    (refl, refl, refl, refl, refl, refl, refl, refl, refl, refl, refl, refl, refl, refl, refl, refl, refl, refl, refl, refl, refl, refl)

-- p := location 0, of size 1; v := 0; then this line; one thread. In bytes
abbrev line_table : List ℕ → ℕ → List ℕ
line_table line length =
    (0x20 ∷ 0 ∷ 2 ∷ 0 ∷ 0 ∷ 0x20 ∷ 1 ∷ 1 ∷ 0 ∷ 0 ∷ 0 ∷ 0 ∷ [])
    ++ (line
    ++ (0 ∷ 0 ∷ 2 ∷ 0 ∷ 0 ∷ 0 ∷ 0 ∷ 1 ∷ 0 ∷ 0 ∷ 0 ∷ 0x43 ∷ 0x50 ∷ 1 ∷ 0 ∷ 1 ∷ 0 ∷ 1 ∷ 0 ∷ 10 ∷ 0 ∷ 0 ∷ 0 ∷ length ∷ 0 ∷ 0 ∷ 0 ∷ []))

-- MAX + 1
abbrev large_bytes : List ℕ
large_bytes = 0x10 ∷ 1 ∷ 0xFF ∷ 0xFF ∷ 0xFF ∷ 0x7F ∷ 1 ∷ 1 ∷ 0 ∷ 0 ∷ 0 ∷ []

-- not 0
abbrev wrong_bytes : List ℕ
wrong_bytes = 0x16 ∷ 1 ∷ 0 ∷ 0 ∷ 0 ∷ 0 ∷ []

-- number 0 or 1
abbrev num_bytes : ℕ → List ℕ
num_bytes n = 1 ∷ n ∷ 0 ∷ 0 ∷ 0 ∷ []

-- such a run is blocked after two steps, for this reason
abbrev BlockedBy : List ℕ → ℕ → ℕ → Type 0
BlockedBy line length why =
    concurrent_call (line_table line length) (0 ∷ 0 ∷ 0 ∷ 0 ∷ []) (lent 5) [] ≡ told 2 2 2 0 why zero_cell []

-- WHOLE RUNS: p[not 0] := MAX + 1; p[MAX + 1] := not 0; v[MAX + 1] := 0; v[1] := 0; p[1] := 0; v := true = (MAX + 1); v := true + (MAX + 1);
-- v := (MAX + 1) + true
pub reasons_of_runs :
    BlockedBy (0x21 ∷ 0 ∷ wrong_bytes ++ large_bytes) 0x3A 1
    × BlockedBy (0x21 ∷ 0 ∷ large_bytes ++ wrong_bytes) 0x3A 2
    × BlockedBy (0x21 ∷ 1 ∷ large_bytes ++ num_bytes 0) 0x39 1
    × BlockedBy (0x21 ∷ 1 ∷ num_bytes 1 ++ num_bytes 0) 0x33 2
    × BlockedBy (0x21 ∷ 0 ∷ num_bytes 1 ++ num_bytes 0) 0x33 3
    × BlockedBy (0x20 ∷ 1 ∷ 0x14 ∷ 4 ∷ large_bytes) 0x36 1
    × BlockedBy (0x20 ∷ 1 ∷ 0x10 ∷ 4 ∷ large_bytes) 0x36 2
    × BlockedBy (0x20 ∷ 1 ∷ 0x10 ∷ large_bytes ++ (4 ∷ [])) 0x36 1
reasons_of_runs = (refl, refl, refl, refl, refl, refl, refl, refl)

-- x := location 0, of size 1; then this instruction
abbrev halting : Instr Plain → Program Plain
halting i = record {
  procs = record { params = 0; locals = 1; body = assign 0 (constant (Location 0)) then i then end } ∷ [];
  sizes = 1 ∷ [];
  mains = [];
}

-- it blocks after one step, for this reason
abbrev Halted : Instr Plain → ℕ → Type 0
Halted i why = sequential_call 9 0 (table sequential (halting i)) [] (lent 5) [] ≡ told 2 1 0 0 why zero_cell []

-- THE SEQUENTIAL MACHINE, FOR THE SAME REASONS
pub reasons_of_copies :
    Halted (assign 0 large) 1
    × Halted (write 0 (num 1) (num 0)) 3
    × Halted (write 0 wrong large) 1
    × Halted (read 0 0 (constant (Whole (negsuc 0)))) 3
    × Halted (while (num 0) end) 2
    × Halted (if large end end) 1
reasons_of_copies = (refl, refl, refl, refl, refl, refl)

-- x := location 1, of size 3; x[0] := true; x[1] := -1; select(location 0, location 1): "an entry outside b gives 3, one whose cell isn't a number 2,
-- one whose cell is 0 gives 4"; a negative number is other than 0
abbrev chosen : List ℕ → Next
chosen ts =
    choose 0 1 ((Whole (pos 0) ∷ []) ∷ (Truth true ∷ Whole (negsuc 0) ∷ Whole (pos 0) ∷ []) ∷ []) (record { proc = 0; env = []; code = end }) [] ts []

-- SELECT
pub reasons_of_select :
    (chosen (3 ∷ []) ≡ ended (blocked IndexOutside))
    × (chosen (0 ∷ []) ≡ ended (blocked WrongKind))
    × (chosen (2 ∷ []) ≡ ended (blocked FinishedThread))
    × (chosen [] ≡ ended used)
    × ((c : Config) × (chosen (1 ∷ []) ≡ goes c))
reasons_of_select = (refl, refl, refl, refl, (_, refl))

-- Programs of request 107, placed in both modes: C, K, one whose procedure nobody calls, and the edge of number 9.
use Rattle.std.specs.Prelude.{ℕ, zero, suc, ◌≡◌, refl, true, List, [], ◌∷◌, map, length}
use Rattle.std.proofs.Common.{arith}
use Rattle.value.specs.Values.{not, add}
use Rattle.value.specs.declared.Value.TheVariants.{Truth}
use Rattle.value.proofs.Laws.Lists.{here}
use Rattle.format.specs.Syntax.{Expr, constant, local, one, two, assign, write, call, atomic, Block, end, Proc, Program, Plain}
use Rattle.format.specs.Syntax.{concurrent, sequential}
use Rattle.format.specs.Encode.{table}
use Rattle.format.proofs.Laws.Calls.{direct}
use Rattle.translation.specs.declared.Mode.TheVariants.{Own, Shared}
use Rattle.translation.specs.Placement.{largest, callers, by_rounds, start_in, row_of}
use Rattle.translation.specs.Code.{◌then◌, num}
use Rattle.translation.specs.Translate.{translate_in}
use Rattle.translation.proofs.Laws.Placing.Apart.{down, Apart, from}

-- a procedure of so many parameters and locals
abbrev proc : ℕ → ℕ → Block Plain → Proc Plain
proc n x b = record { params = n; locals = x; body = b }

-- C: "0: x0 := 5; call 1(x0); call 2(). 1 (1 parameter, 2 locals): x1 := x0 + 1. 2: x0 := true"
abbrev pub C : Program Plain
C = record {
  procs =
      proc 0 1 (assign 0 (num 5) then call 1 (local 0 ∷ []) then call 2 [] then end)
      ∷ proc 1 2 (assign 1 (two add (local 0) (num 1)) then end)
      ∷ proc 0 1 (assign 0 (constant (Truth true)) then end)
      ∷ [];
  sizes = [];
  mains = 0 ∷ [];
}

-- "Starts 0 1 3, row 4, copy 565 bytes"; "shared: 0 1 1, row 3, copy 563"
pub placed_c :
    (length (table concurrent C) ≡ 69)
    × (map (start_in Own C.procs) (0 ∷ 1 ∷ 2 ∷ []) ≡ 0 ∷ 1 ∷ 3 ∷ [])
    × (row_of Own C.procs ≡ 4)
    × (length (table sequential (translate_in Own C)) ≡ 565)
    × (map (start_in Shared C.procs) (0 ∷ 1 ∷ 2 ∷ []) ≡ 0 ∷ 1 ∷ 1 ∷ [])
    × (row_of Shared C.procs ≡ 3)
    × (length (table sequential (translate_in Shared C)) ≡ 563)
unfolding by_rounds largest callers
placed_c = (refl, refl, refl, refl, refl, refl, refl)

-- with all procedures at 0, two of one call path would overlap: that is no placement
pub overlap_c : Apart C.procs (from C.procs (λ m. 0)) → ⊥
overlap_c a =
    let e : ◌≡◌ {A = ℕ} 0 1 = (a.apart 0 0 1 0 (omega arith) (omega arith) (down (direct here)) (omega arith) (omega arith) refl).0 in
    absurd (omega arith)

-- K: the only call stands inside an atomic block, and counts
abbrev K : List (Proc Plain)
K = proc 0 1 (assign 0 (num 7) then atomic (call 1 (num 9 ∷ []) then end) then assign 0 (local 0) then end) ∷ proc 1 1 end ∷ []

-- so the two do not share
pub placed_k : map (start_in Shared K) (0 ∷ 1 ∷ []) ≡ 0 ∷ 1 ∷ []
unfolding by_rounds largest callers
placed_k = refl

-- nobody calls 1, which calls 2: they are on one call path, and the row is 32
pub placed_uncalled : row_of Shared (proc 0 0 end ∷ proc 0 16 (call 2 [] then end) ∷ proc 0 16 end ∷ []) ≡ 32
unfolding by_rounds largest callers
placed_uncalled = refl

-- 2 is called by 1 and by 3, and begins after the later end
pub placed_both :
    map (start_in Shared
    (proc 0 1 (call 1 [] then call 3 [] then end) ∷ proc 0 1 (call 2 [] then end) ∷ proc 0 1 end ∷ proc 0 5 (call 2 [] then end) ∷ []))
    (0 ∷ 1 ∷ 2 ∷ 3 ∷ [])
    ≡ 0 ∷ 1 ∷ 6 ∷ 1 ∷ []
unfolding by_rounds largest callers
placed_both = refl

-- ---- the edge of 9

-- not, so many times
abbrev nots : ℕ → Expr
nots zero = constant (Truth true)
nots (suc n) = one not (nots n)

-- x0[x0] := x0, so many times
abbrev writes : ℕ → Block Plain
writes zero = end
writes (suc n) = write 0 (local 0) (local 0) then writes n

-- "procedure 0 (1 local) is atomic { x0 := not^9 true; x0 := not^15 true; 1,812 times x0[x0] := x0 }, procedure 1 (1 local) empty, T = 1"
abbrev edge : Program Plain
edge = record {
  procs = proc 0 1 (atomic (assign 0 (nots 9) then assign 0 (nots 15) then writes 1812) then end) ∷ proc 0 1 end ∷ [];
  sizes = [];
  mains = 0 ∷ [];
}

-- "10,936 bytes; mode 0 refused 9 (65,538), mode 1 has 65,536 bytes"
pub edge_of_9 :
    (length (table concurrent edge) ≡ 10936) × (length (table sequential (translate_in Own edge)) ≡ 65538)
    × (length (table sequential (translate_in Shared edge)) ≡ 65536)
unfolding by_rounds largest callers
edge_of_9 = (refl, refl, refl)

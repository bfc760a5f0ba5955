-- What an atomic block does, in one go. Threads.toEnd goes step by step; Laws/Acting.antt shows that the two are the same.
use Rattle.std.specs.Prelude.{ℕ, [], ◌∷◌, ◌++◌, true, false}
use Rattle.value.specs.Try.{Try, has, lacks, ◌⟫◌}
use Rattle.format.specs.Syntax.{local, Instr, assign, write, read, while, if, call, atomic, select, Block, end, step, concurrent}
use Rattle.format.specs.Rules.{Here}
use Rattle.semantics.specs.Memory.{bound, eval, index, cell, stored, reading, writing}
use Rattle.value.specs.Values.{number, place, truth}
use Rattle.value.specs.declared.Reason.TheVariants.{WrongKind}
use Rattle.semantics.specs.Threads.{Atomic}

-- inside an atomic block of procedure m
abbrev pub within : ℕ → Here
within m = record { kind = concurrent; proc = m; inside = true }

-- by thread t, in the block of a label, from these locals, memory and events
module _ (t label : ℕ) where
  abbrev mutual
    -- an instruction
    pub act_i : Instr ℕ → Atomic → Try Atomic
    act_i (assign x e) a =
        eval a.env e ⟫ λ v.
        has (record { env = bound a.env x v; memory = a.memory; events = a.events })
    act_i (write y o e) a =
        eval a.env e ⟫ λ v.
        eval a.env o ⟫ number ⟫ λ z.
        eval a.env (local y) ⟫ place ⟫ λ l.
        index z ⟫ λ i.
        cell a.memory l i ⟫ λ _.
        has (record {
          env = a.env;
          memory = stored a.memory l i v;
          events = a.events ++ (record { thread = t; way = writing; place = l; index = i; value = v; label = label } ∷ []);
        })
    act_i (read x y o) a =
        eval a.env o ⟫ number ⟫ λ z.
        eval a.env (local y) ⟫ place ⟫ λ l.
        index z ⟫ λ i.
        cell a.memory l i ⟫ λ v.
        has (record {
          env = bound a.env x v;
          memory = a.memory;
          events = a.events ++ (record { thread = t; way = reading; place = l; index = i; value = v; label = label } ∷ []);
        })
    act_i (if e b d) a = eval a.env e ⟫ truth ⟫ λ q. elim q [ true ↦ act b a | false ↦ act d a ]
    act_i (while e b) a = lacks WrongKind
    act_i (call m es) a = lacks WrongKind
    act_i (atomic b) a = lacks WrongKind
    act_i (select x y) a = lacks WrongKind

    -- a block
    pub act : Block ℕ → Atomic → Try Atomic
    act end a = has a
    act (step l i b) a = act_i i a ⟫ act b

-- A table without entries.
use Rattle.std.proofs.Common.{◌≡◌, ℕ, zero, suc, ◌≤◌, length, get_or, List, [], refl, ◌∙◌, ap, arith}
use Rattle.std.specs.Vec.{vec_capacity}
use Rattle.std.proofs.Math.ListN.{replicate}
use Rattle.std.proofs.lemmas.List.{length-replicate}
use Rattle.line_map.specs.declared.table.Table.{Table}
use Rattle.line_map.specs.Table.{IsFresh, slot_of}

pub all_same : {X : Type 0} (x : X) (n k : ℕ) → get_or (replicate n x) k x ≡ x
all_same x zero k = refl
all_same x (suc n) zero = refl
all_same x (suc n) (suc k) = all_same x n k

pub fresh : (t : Table) (n : ℕ) → n ≡ 32768 → t.slots.items ≡ replicate n 0 → t.entries.items ≡ []
    → 512 ≤ vec_capacity t.entries → IsFresh t
fresh t n e slots entries room =
    let slot : (s : ℕ) → slot_of t s ≡ 0 = λ s. ap (λ (xs : List ℕ). get_or xs s 0) slots ∙ all_same 0 n s in
    record {
      table = record {
        ids = ap length slots ∙ (length-replicate n 0 ∙ e);
        within = λ s. let z = slot s in omega arith;
        apart = λ s x lt _. let z = slot s in absurd (omega arith);
        room = room;
        few = rw entries (omega arith);
      };
      none = λ s. rw (slot s) refl;
      count = rw entries refl;
    }

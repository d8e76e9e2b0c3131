-- A text of which nothing is written yet, and a clause that holds where a call went well.
use Rattle.std.proofs.Common.{◌≡◌, ℕ, ◌≤◌, List, Option, Some, None, Result, Ok, Err, OnOk, refl, sym, ap, append-nil, arith}
use Rattle.edge_io.specs.Reading.{WroteFront}

pub on_ok : {X E P Q : Type 0} (r : Result X E) → (P → Q) → OnOk r P → OnOk r Q
on_ok (Ok x) f h = f h
on_ok (Err e) f h = h

pub front_none : (a : Option (List ℕ)) (t : List ℕ) → WroteFront a a t
front_none None t = refl
front_none (Some a) t = (0, omega arith, ap Some (sym (append-nil a)))

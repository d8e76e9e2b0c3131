-- One text after another, where what is pending goes to the sink in pieces.
use Rattle.std.proofs.Common.{◌≡◌, ℕ, ◌≤◌, List, [], ◌++◌, Option, Some, Result, Ok, Err, take, drop, refl, sym, ◌∙◌, ap, subst, append-nil, append_assoc}
use Rattle.std.proofs.lemmas.List.{take-append-drop}
use Rattle.edge_io.specs.declared.writing.WriteFault.{WriteFault}
use Rattle.edge_io.specs.Reading.{WroteIs, WroteFront}
use Rattle.edge_io.specs.Writing.{Wrote}
use Rattle.edge_io.specs.Causes.{Rose}
use Rattle.edge_io.specs.Memory.{InBuffer}
use Rattle.edge_io.proofs.Wrote_then.{wrote_then, front_then, front_more, wrote_none}
use Rattle.run_engine.specs.declared.output.Fault.{Fault}
use Rattle.run_engine.specs.declared.output.Fault.TheVariants as faults
use Rattle.run_engine.specs.Does.{Does}
use Rattle.run_engine.specs.Sends.{Sent, Sends, GivesUp}
use Rattle.run_engine.proofs.Told_front.{front_none}

sent_none : (a : Option (List ℕ)) (p q s : List ℕ) → q ≡ p ++ s → Sent a a p q s
sent_none a p q s e = record { out = []; wrote = wrote_none a; is = e }

sent_then : (a b c : Option (List ℕ)) (p q r s t : List ℕ) → Sent a b p q s → Sent b c q r t → Sent a c p r (s ++ t)
sent_then a b c p q r s t h k = record {
  out = h.out ++ k.out;
  wrote = wrote_then a b c h.out k.out h.wrote k.wrote;
  is = append_assoc h.out k.out r ∙ (ap (λ xs. h.out ++ xs) k.is ∙ (sym (append_assoc h.out q t) ∙ (ap (λ xs. xs ++ t) h.is ∙ append_assoc p s t)));
}

-- what came out, and then a front of what is pending and of a further text
front_sent : (a b c : Option (List ℕ)) (p q s t : List ℕ) → Sent a b p q s → WroteFront b c (q ++ t) → WroteFront a c (p ++ (s ++ t))
front_sent a b c p q s t h k =
    subst (λ (xs : List ℕ). WroteFront a c xs) (sym (append_assoc h.out q t) ∙ (ap (λ xs. xs ++ t) h.is ∙ append_assoc p s t))
    (front_then a b c h.out (q ++ t) h.wrote k)

-- from where nothing was pending, what was sent is what came out and what is pending
whole : (a b c : Option (List ℕ)) (p s : List ℕ) → Sent a b [] p s → WroteIs b c p → WroteIs a c s
whole a b c p s h k = subst (λ (xs : List ℕ). WroteIs a c xs) h.is (wrote_then a b c h.out p h.wrote k)

front : (a b c : Option (List ℕ)) (p s t : List ℕ) → Sent a b [] p s → WroteFront b c p → WroteFront a c (s ++ t)
front a b c p s t h k = front_more a c s t (subst (λ (xs : List ℕ). WroteFront a c xs) h.is (front_then a b c h.out p h.wrote k))

front_all : (b c : Option (List ℕ)) (p : List ℕ) → WroteIs b c p → WroteFront b c p
front_all b c p h = subst (λ (xs : List ℕ). WroteFront b c xs) (append-nil p) (front_then b c c p [] h (front_none c []))

module _ {K : Type 0} (written : K → Option (List ℕ)) (count : K → ℕ) where
  pub nothing : {X : Type 0} (a : K) (p t : List ℕ) (x : X) → t ≡ [] → Sends written count a a p p t (Ok x)
  unfolding Sends
  nothing a p t x e = (sent_none (written a) p p t (sym (append-nil p) ∙ ap (λ xs. p ++ xs) (sym e)), refl)

  pub no_memory : (X : Type 0) (a : K) (p q t : List ℕ) → q ≡ p → Sends {X = X} written count a a p q t (Err faults.Memory)
  unfolding Sends
  no_memory X a p q t e = (record { front = []; rest = t; all = refl; sent = sent_none (written a) p q [] (e ∙ sym (append-nil p)) }, refl)

  -- what was written whole, and then more
  pub then : {X Y : Type 0} (a b c : K) (p q r s t : List ℕ) (x : X) (y : Result Y Fault) → Sends written count a b p q s (Ok x) → Sends written count b c q r t y → Sends written count a c p r (s ++ t) y
  unfolding Sends
  then a b c p q r s t x (Ok y) h k = (sent_then (written a) (written b) (written c) p q r s t h.0 k.0, k.1 ∙ h.1)
  then a b c p q r s t x (Err faults.Write) h k = (front_sent (written a) (written b) (written c) p q s t h.0 k.0, subst (λ n. n ≤ count c) h.1 k.1, subst (λ n. Rose n (count c)) h.1 k.2)
  then a b c p q r s t x (Err faults.Memory) h k = (
    record {
      front = s ++ k.0.front;
      rest = k.0.rest;
      all = append_assoc s k.0.front k.0.rest ∙ ap (λ xs. s ++ xs) k.0.all;
      sent = sent_then (written a) (written b) (written c) p q r s k.0.front h.0 k.0.sent;
    },
    k.1 ∙ h.1,
  )

  -- what failed before more was written
  pub stop : (X Y : Type 0) (a b : K) (p q s t : List ℕ) (e : Fault) → Sends {X = X} written count a b p q s (Err e) → Sends {X = Y} written count a b p q (s ++ t) (Err e)
  unfolding Sends
  stop X Y a b p q s t faults.Write h = (subst (λ (xs : List ℕ). WroteFront (written a) (written b) xs) (append_assoc p s t) (front_more (written a) (written b) (p ++ s) t h.0), h.1, h.2)
  stop X Y a b p q s t faults.Memory h = (
    record {
      front = h.0.front;
      rest = h.0.rest ++ t;
      all = sym (append_assoc h.0.front h.0.rest t) ∙ ap (λ xs. xs ++ t) h.0.all;
      sent = h.0.sent;
    },
    h.1,
  )

  -- a text that is spelled another way
  pub other_text : {X : Type 0} (a b : K) (p q s t : List ℕ) (x : Result X Fault) → s ≡ t → Sends written count a b p q s x → Sends written count a b p q t x
  other_text a b p q s t x e h = subst (λ (u : List ℕ). Sends written count a b p q u x) e h

  pub answers : {X Y : Type 0} (a b : K) (p q t : List ℕ) (x : X) (y : Y) → Sends written count a b p q t (Ok x) → Sends written count a b p q t (Ok y)
  unfolding Sends
  answers a b p q t x y h = h

  pub fails : (X Y : Type 0) (a b : K) (p q t : List ℕ) (e : Fault) → Sends {X = X} written count a b p q t (Err e) → Sends {X = Y} written count a b p q t (Err e)
  unfolding Sends
  fails X Y a b p q t faults.Write h = h
  fails X Y a b p q t faults.Memory h = h

  -- a text that was written into the buffer
  pub buffered : {X : Type 0} (a : K) (old new : InBuffer) (t : List ℕ) (u : Unit {0}) (x : X) → Wrote {K = InBuffer} (λ b. Some b.text) (λ b. b.faults) old new t (Ok u) → Sends written count a a old.text new.text t (Ok x)
  unfolding Sends Wrote
  buffered a old new t u x h = let e : new.text ≡ old.text ++ t = cc (h.0) in (sent_none (written a) old.text new.text t e, refl)

  pub buffer_full : (X : Type 0) (a : K) (old new : InBuffer) (t : List ℕ) (e : WriteFault) → Wrote {K = InBuffer} (λ b. Some b.text) (λ b. b.faults) old new t (Err e) → Sends {X = X} written count a a old.text new.text t (Err faults.Memory)
  unfolding Sends Wrote
  buffer_full X a old new t e h =
      let n = h.0.0 in
      let same : new.text ≡ old.text ++ take n t = cc (h.0.2) in
      (record { front = take n t; rest = drop n t; all = take-append-drop n t; sent = sent_none (written a) old.text new.text (take n t) same }, refl)

  -- what is pending was written in the middle
  pub emptied : {X : Type 0} (a b : K) (p q : List ℕ) (u : Unit {0}) (x : X) → Wrote written count a b p (Ok u) → q ≡ [] → Sends written count a b p q [] (Ok x)
  unfolding Sends Wrote
  emptied a b p q u x h e = (record { out = p; wrote = h.0; is = ap (λ xs. p ++ xs) e }, h.1)

  pub not_emptied : (X : Type 0) (a b : K) (p q : List ℕ) (e : WriteFault) → Wrote written count a b p (Err e) → Sends {X = X} written count a b p q [] (Err faults.Write)
  unfolding Sends Wrote
  not_emptied X a b p q e h = (subst (λ (xs : List ℕ). WroteFront (written a) (written b) xs) (sym (append-nil p)) h.0, h.1, h.2)

  -- what is pending is written at the end
  pub ends : {X Y : Type 0} (a b c : K) (p t : List ℕ) (x : X) (u : Unit {0}) (y : Y) → Sends written count a b [] p t (Ok x) → Wrote written count b c p (Ok u) → Does written count a c t (Ok y)
  unfolding Sends Wrote Does
  ends a b c p t x u y h k = (whole (written a) (written b) (written c) p t h.0 k.0, k.1 ∙ h.1)

  pub end_fails : {X : Type 0} (Y : Type 0) (a b c : K) (p t : List ℕ) (x : X) (e : WriteFault) → Sends written count a b [] p t (Ok x) → Wrote written count b c p (Err e) → Does {X = Y} written count a c t (Err faults.Write)
  unfolding Sends Wrote Does
  end_fails Y a b c p t x e h k = (
    subst (λ (xs : List ℕ). WroteFront (written a) (written c) xs) (append-nil t) (front (written a) (written b) (written c) p t [] h.0 k.0),
    subst (λ n. n ≤ count c) h.1 k.1,
    subst (λ n. Rose n (count c)) h.1 k.2,
  )

  -- a document that is given up
  pub gave_up : (X Y : Type 0) (a b c : K) (p t : List ℕ) (fault result : Fault) → Sends {X = X} written count a b [] p t (Err fault) → GivesUp written count b c p fault result → Does {X = Y} written count a c t (Err result)
  unfolding Sends GivesUp Does
  gave_up X Y a b c p t faults.Write result h k =
      subst (λ (e : Fault). Does {X = Y} written count a c t (Err e)) (sym k.0)
      (subst (λ (x : K). Does {X = Y} written count a x t (Err faults.Write)) (sym k.1) h)
  gave_up X Y a b c p t faults.Memory faults.Write h k = (
    subst (λ (xs : List ℕ). WroteFront (written a) (written c) xs) h.0.all (front (written a) (written b) (written c) p h.0.front h.0.rest h.0.sent k.0),
    subst (λ n. n ≤ count c) h.1 k.1,
    subst (λ n. Rose n (count c)) h.1 k.2,
  )
  gave_up X Y a b c p t faults.Memory faults.Memory h k = (
    subst (λ (xs : List ℕ). WroteFront (written a) (written c) xs) h.0.all (front (written a) (written b) (written c) p h.0.front h.0.rest h.0.sent (front_all (written b) (written c) p k.0)),
    k.1 ∙ h.1,
  )

  pub gives_write : (a : K) (p : List ℕ) (fault : Fault) → fault ≡ faults.Write → GivesUp written count a a p fault faults.Write
  unfolding GivesUp
  gives_write a p fault e = rw e (refl, refl)

  pub gives_memory : (a b : K) (p : List ℕ) (fault : Fault) (u : Unit {0}) → fault ≡ faults.Memory → Wrote written count a b p (Ok u) → GivesUp written count a b p fault faults.Memory
  unfolding GivesUp Wrote
  gives_memory a b p fault u e h = rw e h

  pub gives_failed : (a b : K) (p : List ℕ) (fault : Fault) (w : WriteFault) → fault ≡ faults.Memory → Wrote written count a b p (Err w) → GivesUp written count a b p fault faults.Write
  unfolding GivesUp Wrote
  gives_failed a b p fault w e h = rw e h

  -- from where nothing was pending
  pub from_none : {X : Type 0} (a b : K) (p q t : List ℕ) (x : Result X Fault) → p ≡ [] → Sends written count a b p q t x → Sends written count a b [] q t x
  from_none a b p q t x e h = subst (λ (u : List ℕ). Sends written count a b u q t x) e h

-- A message that was issued and passes a test.
use Rattle.std.proofs.Common.{◌≡◌, ℕ, List, [], ◌∷◌, Bool, true}
use Rattle.std.specs.List.{list_any}
use Rattle.list_laws.proofs.By_test.{by_test}
use Rattle.definitions.specs.declared.message.Msg.{Msg}
use Rattle.definitions.specs.Story.{Story, ever_issued}
use Rattle.event_laws.proofs.Issued_all.{AllIn, AllIssued}

-- one that passes
in_found : (G : Type 0) (test : Msg → Bool) (P : Msg → Type 0) (issued : List (ℕ × Msg)) → AllIn P issued → list_any (λ (x : ℕ × Msg). test x.1) issued ≡ true
    → ((m : Msg) → P m → test m ≡ true → G) → G
unfolding AllIn
in_found G test P [] a h f = absurd cc
in_found G test P (x ∷ issued) a h f = by_test (test x.1)
    (λ y. f x.1 a.0 y)
    (λ n. in_found G test P issued a.1 (rw n at h) f)

pub issued_found : (G : Type 0) (test : Msg → Bool) (P : Msg → Type 0) (s : Story) → AllIssued P s → ever_issued test s ≡ true
    → ((m : Msg) → P m → test m ≡ true → G) → G
unfolding AllIssued ever_issued
issued_found G test P [] a h f = absurd cc
issued_found G test P (e ∷ s) a h f = by_test (list_any (λ (x : ℕ × Msg). test x.1) e.issued)
    (λ y. in_found G test P e.issued a.0 y f)
    (λ n. issued_found G test P s a.1 (rw n at h) f)

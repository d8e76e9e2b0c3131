-- One piece more of a run.
use Rattle.std.proofs.Common.{◌≡◌, ℕ, ◌+◌, List, [], ◌++◌, length, take, drop, Option, Some, None, Result, Ok, Err, true, false, refl, sym, ◌∙◌, ap, subst, append-nil, append_assoc}
use Rattle.std.proofs.lemmas.List.{take-append-drop}
use Rattle.edge_io.specs.declared.stream.Got.TheVariants.{Bytes, End, Failed}
use Rattle.edge_io.specs.Streams.{Gives, GivesTold}
use Rattle.edge_io.specs.Reading.{WroteIs, WroteFront}
use Rattle.edge_io.proofs.Wrote_then.{wrote_then, front_then, front_more, wrote_none}
use Rattle.definitions.specs.declared.document.Command.{Command}
use Rattle.definitions.specs.declared.document.Ending.{Ending}
use Rattle.definitions.specs.declared.document.Ending.TheVariants as ends
use Rattle.definitions.specs.Endings.{status_of}
use Rattle.definitions.specs.Trace.{Given, behind, is_over, start, trace}
use Rattle.byte_feed.specs.Feed.{Feed, opened, feds, feds_text, fed_gives, total}
use Rattle.byte_feed.proofs.Trace_fed.{trace_fed}
use Rattle.byte_feed.proofs.So_far.{so_far}
use Rattle.byte_feed.proofs.Feds_append.{gives_append, gives_over, feds_count, feds_append, feds_text_append}
use Rattle.run_engine.proofs.Told_front.{front_none}
use Rattle.run_engine.specs.declared.output.Fault.{Fault}
use Rattle.run_engine.specs.declared.output.Fault.TheVariants as faults
use Rattle.top_call.specs.declared.pump.Cut.{Cut}
use Rattle.top_call.specs.declared.pump.Cut.TheVariants as cuts
use Rattle.edge_io.specs.declared.status.Status.TheVariants as status
use Rattle.top_call.specs.Running.{Comes, Mid, Midway, AtStop, Pumped, PumpCauses, Gave, Ran, ReadCut, Causes, cut_of, status_of_cut}

pub midway_start : (left : Option (List ℕ)) (f : Feed) (w : Option (List ℕ)) → Midway left left f f w w
unfolding feds feds_text
midway_start None f w = tt
midway_start (Some all) f w = record { got = []; came = refl; next = refl; wrote = wrote_none w }

-- what was left, by what came and what is left
came : (n : ℕ) (old buf new : List ℕ) → GivesTold (Bytes n) old buf (Some new) → old ≡ take n buf ++ new
came n old buf new g = sym (take-append-drop n old) ∙ (ap (λ xs. xs ++ drop n old) (sym g.1) ∙ ap (λ xs. take n buf ++ xs) (sym g.2))

goes_on : (all old buf new : List ℕ) (n : ℕ) (first f next : Feed) (before mid now : Option (List ℕ)) → GivesTold (Bytes n) old buf (Some new) → Mid all old first f before mid → next ≡ feds f (take n buf) → WroteIs mid now (feds_text f (take n buf)) → Mid all new first next before now
goes_on all old buf new n first f next before mid now g h e w =
    let piece = take n buf in
    let wrote = subst (λ (x : Feed). WroteIs mid now (feds_text x piece)) h.next w in
    record {
      got = h.got ++ piece;
      came = append_assoc h.got piece new ∙ (ap (λ xs. h.got ++ xs) (sym (came n old buf new g)) ∙ h.came);
      next = e ∙ (ap (λ (x : Feed). feds x piece) h.next ∙ sym (feds_append h.got first piece));
      wrote = subst (λ (t : List ℕ). WroteIs before now t) (sym (feds_text_append h.got first piece)) (wrote_then before mid now (feds_text first h.got) (feds_text (feds first h.got) piece) h.wrote wrote);
    }

-- what stands, and what the rest gives, is what all gives
comes : (all rest : List ℕ) (first f : Feed) (before now : Option (List ℕ)) → Mid all rest first f before now → Comes (fed_gives first all) (fed_gives f rest) before now
comes all rest first f before now h = record {
  out = feds_text first h.got;
  wrote = h.wrote;
  is = ap (λ (x : Feed). behind (feds_text first h.got) (fed_gives x rest)) h.next ∙ (sym (gives_append h.got first rest) ∙ ap (fed_gives first) h.came);
}

pub midway_more : (all old new : Option (List ℕ)) (buf : List ℕ) (n : ℕ) (first f next : Feed) (before mid now : Option (List ℕ)) → Gives (Bytes n) old buf new → Midway all old first f before mid → next ≡ feds f (take n buf) → WroteIs mid now (feds_text f (take n buf)) → Midway all new first next before now
midway_more None None None buf n first f next before mid now g h e w = tt
midway_more None None (Some new) buf n first f next before mid now g h e w = cc
midway_more None (Some old) new buf n first f next before mid now g h e w = absurd h
midway_more (Some all) None new buf n first f next before mid now g h e w = absurd h
midway_more (Some all) (Some old) None buf n first f next before mid now g h e w = absurd g
midway_more (Some all) (Some old) (Some new) buf n first f next before mid now g h e w = goes_on all old buf new n first f next before mid now g h e w

front_of : (all rest : Given) (before now : Option (List ℕ)) → Comes all rest before now → WroteFront before now all.text
front_of all rest before now h =
    subst (λ (t : List ℕ). WroteFront before now t) (ap (λ (g : Given). g.text) h.is)
    (front_more before now h.out rest.text (subst (λ (t : List ℕ). WroteFront before now t) (append-nil h.out) (front_then before now now h.out [] h.wrote (front_none now []))))

-- a fault of the source
pub midway_fails : (all old : Option (List ℕ)) (first f last : Feed) (before now : Option (List ℕ)) (r : Result (Unit {0}) Cut) (cut : Cut) → r ≡ Err cut → Midway all old first f before now → Pumped all first last before now r
midway_fails None old first f last before now r cut e h = tt
midway_fails (Some all) None first f last before now r cut e h = absurd h
midway_fails (Some all) (Some old) first f last before now r cut e h = rw e (front_of (fed_gives first all) (fed_gives f old) before now (comes all old first f before now h))

-- what is left stays
pub midway_stays : (all old new : Option (List ℕ)) (buf : List ℕ) (first f : Feed) (before now : Option (List ℕ)) → Gives Failed old buf new → Midway all old first f before now → Midway all new first f before now
midway_stays all None new buf first f before now g h = subst (λ (x : Option (List ℕ)). Midway all x first f before now) (sym g) h
midway_stays all (Some old) None buf first f before now g h = absurd g
midway_stays all (Some old) (Some new) buf first f before now g h = subst (λ (x : List ℕ). Midway all (Some x) first f before now) (sym g) h

-- a fault of the sink, or want of memory, inside a piece
pub midway_cut : (all old new : Option (List ℕ)) (buf : List ℕ) (n : ℕ) (first f last : Feed) (before mid now : Option (List ℕ)) (cut : Cut) → Gives (Bytes n) old buf new → Midway all old first f before mid → WroteFront mid now (feds_text f (take n buf)) → Pumped all first last before now (Err cut)
midway_cut None old new buf n first f last before mid now cut g h w = tt
midway_cut (Some all) None new buf n first f last before mid now cut g h w = absurd h
midway_cut (Some all) (Some old) None buf n first f last before mid now cut g h w = absurd g
midway_cut (Some all) (Some old) (Some new) buf n first f last before mid now cut g mid_h w =
    let piece = take n buf in
    let h = comes all old first f before mid mid_h in
    let split : fed_gives f old ≡ behind (feds_text f piece) (fed_gives (feds f piece) new) =
    ap (fed_gives f) (came n old buf new g) ∙ gives_append piece f new in
    let text : h.out ++ (feds_text f piece ++ (fed_gives (feds f piece) new).text) ≡ (fed_gives first all).text =
    ap (λ (x : Given). h.out ++ x.text) (sym split) ∙ ap (λ (x : Given). x.text) h.is in
    subst (λ (t : List ℕ). WroteFront before now t) text
    (front_then before mid now h.out (feds_text f piece ++ (fed_gives (feds f piece) new).text) h.wrote (front_more mid now (feds_text f piece) (fed_gives (feds f piece) new).text w))

-- the end of the input
pub midway_end : (all old new : Option (List ℕ)) (buf : List ℕ) (first f : Feed) (before now : Option (List ℕ)) → Gives End old buf new → Midway all old first f before now → Pumped all first f before now (Ok tt)
midway_end None old new buf first f before now g h = tt
midway_end (Some all) None new buf first f before now g h = absurd h
midway_end (Some all) (Some old) None buf first f before now g h = absurd g
midway_end (Some all) (Some old) (Some new) buf first f before now g h = subst (λ (xs : List ℕ). Comes (fed_gives first all) (fed_gives f xs) before now) g.0 (comes all old first f before now h)

-- a text line gave an answer
pub midway_over : (all old : Option (List ℕ)) (first f : Feed) (before now : Option (List ℕ)) → is_over f.reading.stage ≡ true → Midway all old first f before now → Pumped all first f before now (Ok tt)
midway_over None old first f before now over h = tt
midway_over (Some all) None first f before now over h = absurd h
midway_over (Some all) (Some old) first f before now over h = subst (λ (g : Given). Comes (fed_gives first all) g before now) (gives_over f old over) (comes all old first f before now h)

pub counts : (f next : Feed) (piece : List ℕ) → next ≡ feds f piece → is_over next.reading.stage ≡ false → total next ≡ total f + length piece
counts f next piece e on =
    ap (λ (x : Feed). total x) e ∙ feds_count piece f (ap (λ (x : Feed). is_over x.reading.stage) (sym e) ∙ on)

-- the end, from here on
text_whole : (all rest : Given) (before mid now : Option (List ℕ)) → Comes all rest before mid → WroteIs mid now rest.text → WroteIs before now all.text
text_whole all rest before mid now h w =
    subst (λ (t : List ℕ). WroteIs before now t) (ap (λ (g : Given). g.text) h.is) (wrote_then before mid now h.out rest.text h.wrote w)

text_front : (all rest : Given) (before mid now : Option (List ℕ)) → Comes all rest before mid → WroteFront mid now rest.text → WroteFront before now all.text
text_front all rest before mid now h w =
    subst (λ (t : List ℕ). WroteFront before now t) (ap (λ (g : Given). g.text) h.is) (front_then before mid now h.out rest.text h.wrote w)

pub gave_whole : (e : Ending) (all : Given) (before now : Option (List ℕ)) → e ≡ all.ending → WroteIs before now all.text → Gave (status_of e) all before now
gave_whole ends.Usage all before now e w = (ap status_of e, w)
gave_whole _ all before now e w = (ap status_of e, w)

gave_front : (cut : Cut) (all : Given) (before now : Option (List ℕ)) → WroteFront before now all.text → Gave (status_of_cut cut) all before now
gave_front cuts.Read all before now w = w
gave_front cuts.Write all before now w = w
gave_front cuts.Memory all before now w = w

first_is : (c : Command) (first : Feed) (bytes : List ℕ) → first ≡ opened (start c) → fed_gives first bytes ≡ trace c bytes
first_is c first bytes e = ap (λ (f : Feed). fed_gives f bytes) e ∙ trace_fed c bytes

pub run_whole : (c : Command) (left : Option (List ℕ)) (first f : Feed) (e : Ending) (before mid now : Option (List ℕ)) → first ≡ opened (start c) → Pumped left first f before mid (Ok tt) → WroteIs mid now (fed_gives f []).text → e ≡ (fed_gives f []).ending → Ran c (status_of e) left before now
run_whole c None first f e before mid now is h w same = tt
run_whole c (Some all) first f e before mid now is h w same =
    subst (λ (g : Given). Gave (status_of e) g before now) (first_is c first all is)
    (gave_whole e (fed_gives first all) before now (same ∙ ap (λ (g : Given). g.ending) h.is) (text_whole (fed_gives first all) (fed_gives f []) before mid now h w))

pub run_front : (c : Command) (left : Option (List ℕ)) (first f : Feed) (cut : Cut) (before mid now : Option (List ℕ)) → first ≡ opened (start c) → Pumped left first f before mid (Ok tt) → WroteFront mid now (fed_gives f []).text → Ran c (status_of_cut cut) left before now
run_front c None first f cut before mid now is h w = tt
run_front c (Some all) first f cut before mid now is h w =
    subst (λ (g : Given). Gave (status_of_cut cut) g before now) (first_is c first all is)
    (gave_front cut (fed_gives first all) before now (text_front (fed_gives first all) (fed_gives f []) before mid now h w))

pub run_cut : (c : Command) (left : Option (List ℕ)) (first f : Feed) (cut : Cut) (before now : Option (List ℕ)) → first ≡ opened (start c) → Pumped left first f before now (Err cut) → Ran c (status_of_cut cut) left before now
run_cut c None first f cut before now is h = tt
run_cut c (Some all) first f cut before now is h =
    subst (λ (g : Given). Gave (status_of_cut cut) g before now) (first_is c first all is) (gave_front cut (fed_gives first all) before now h)

-- Only the source stops a pump so.

pub not_stopped : (fault : Fault) (P : Type 0) → AtStop (Err (cut_of fault)) P
not_stopped faults.Write P = tt
not_stopped faults.Memory P = tt

pub fault_uncut : (c : Command) (fault : Fault) (left rest before now : Option (List ℕ)) → ReadCut c (status_of_cut (cut_of fault)) left rest before now
fault_uncut c faults.Write left rest before now = tt
fault_uncut c faults.Memory left rest before now = tt

pub end_uncut : (c : Command) (e : Ending) (left rest before now : Option (List ℕ)) → ReadCut c (status_of e) left rest before now
end_uncut k ends.Usage left rest before now = tt
end_uncut k _ left rest before now = tt

pub run_stopped : (c : Command) (cut : Cut) (left rest : Option (List ℕ)) (first f : Feed) (before now : Option (List ℕ)) → first ≡ opened (start c) → AtStop (Err cut) (Midway left rest first f before now) → ReadCut c (status_of_cut cut) left rest before now
run_stopped c cuts.Write left rest first f before now is h = tt
run_stopped c cuts.Memory left rest first f before now is h = tt
run_stopped c cuts.Read None rest first f before now is h = tt
run_stopped c cuts.Read (Some all) None first f before now is h = h
run_stopped c cuts.Read (Some all) (Some rest) first f before now is h = record {
  got = h.got;
  came = h.came;
  wrote = subst (λ (t : List ℕ). WroteIs before now t) (ap (λ (x : Feed). feds_text x h.got) is ∙ so_far c h.got) h.wrote;
}

pub cut_causes : (cut : Cut) (r0 r w0 w : ℕ) → PumpCauses (Err cut) r0 r w0 w → Causes (status_of_cut cut) r0 r w0 w
cut_causes cuts.Read r0 r w0 w h = h
cut_causes cuts.Write r0 r w0 w h = h
cut_causes cuts.Memory r0 r w0 w h = h

pub end_causes : (e : Ending) (r0 r w0 w : ℕ) → r ≡ r0 → w ≡ w0 → Causes (status_of e) r0 r w0 w
end_causes ends.Usage r0 r w0 w h k = (h, k)
end_causes _ r0 r w0 w h k = (h, k)

-- nothing was begun
pub run_nothing : (c : Command) (left w : Option (List ℕ)) → Ran c status.Memory left w w
run_nothing c None w = tt
run_nothing c (Some all) w = front_none w (trace c all).text

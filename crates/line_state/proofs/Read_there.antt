-- Messages as frames: one more, and one that is read back.
use Rattle.std.proofs.Common.{◌≡◌, ℕ, zero, suc, ◌<◌, ◌+◌, List, [], ◌∷◌, ◌++◌, length, drop, take, get_or, map, Some, Ok, Result, refl, sym, ap, subst, ◌∙◌}
use Rattle.std.specs.Prelude.{slice_get}
use Rattle.std.proofs.lemmas.List.{map-append, at_drop_more}
use Rattle.std.proofs.Math.Seq.{take-append_seam}
use Rattle.std.proofs.lemmas.Option.{slice_get-map, same_Some}
use Rattle.arrayvec.specs.ArrayVec.{ArrayVec}
use Rattle.definitions.specs.declared.message.Msg.{Msg}
use Rattle.definitions.specs.declared.outcome.FrameFault.{FrameFault}
use Rattle.definitions.specs.Frames.{frame_of, frame_at, Fits}
use Rattle.frame_reading.proofs.Frame_again.{frame_again}
use Rattle.event_laws.proofs.Issued_all.{AllIn}
use Rattle.line_state.specs.Frames.{of_frame, read_frame, read_frames, IsFrame, AreFrames, AllFit}

-- the frame of a message in its ranges is read as the message
pub read_again : (bytes : List ℕ) (m : Msg) → Fits m → bytes ≡ frame_of m → read_frame bytes ≡ m
read_again bytes m fits is = ap of_frame (ap frame_at is ∙ frame_again m fits)

pub is_frame : (bytes : List ℕ) (m : Msg) → Fits m → bytes ≡ frame_of m → IsFrame bytes
is_frame bytes m fits is =
    let again = read_again bytes m fits is in
    record {
      fits = subst Fits (sym again) fits;
      is = is ∙ ap frame_of (sym again);
      reads = ap frame_at is ∙ (frame_again m fits ∙ ap (λ (x : Msg). Ok x) (sym again));
    }

-- one frame more
pub more_frames : (frames : List (ArrayVec ℕ)) (f : ArrayVec ℕ) → AreFrames frames → IsFrame f.items → AreFrames (frames ++ f ∷ [])
unfolding AreFrames
more_frames [] f a h = (h, tt)
more_frames (x ∷ frames) f a h = (a.0, more_frames frames f a.1 h)

pub more_read : (frames : List (ArrayVec ℕ)) (f : ArrayVec ℕ) (m : Msg) → Fits m → f.items ≡ frame_of m → read_frames (frames ++ f ∷ []) ≡ read_frames frames ++ m ∷ []
more_read frames f m fits is =
    map-append (λ (x : ArrayVec ℕ). read_frame x.items) frames (f ∷ [])
    ∙ ap (λ (x : Msg). read_frames frames ++ x ∷ []) (read_again f.items m fits is)

-- each is a frame
pub frame_there : (frames : List (ArrayVec ℕ)) (k : ℕ) (f : ArrayVec ℕ) → AreFrames frames → slice_get frames k ≡ Some f → IsFrame f.items
unfolding AreFrames
frame_there [] k f a h = absurd cc
frame_there (x ∷ frames) zero f a h = subst (λ (y : ArrayVec ℕ). IsFrame y.items) (same_Some x f h) a.0
frame_there (x ∷ frames) (suc k) f a h = frame_there frames k f a.1 h

pub message_there : (frames : List (ArrayVec ℕ)) (k : ℕ) (f : ArrayVec ℕ) → slice_get frames k ≡ Some f → slice_get (read_frames frames) k ≡ Some (read_frame f.items)
message_there frames k f h = rw (slice_get-map (λ (x : ArrayVec ℕ). read_frame x.items) frames k, h) refl

pub bytes_there : (frames : List (ArrayVec ℕ)) (k : ℕ) (f : ArrayVec ℕ) → AreFrames frames → slice_get frames k ≡ Some f → slice_get (map frame_of (read_frames frames)) k ≡ Some f.items
bytes_there frames k f a h =
    let there = message_there frames k f h in
    rw (slice_get-map frame_of (read_frames frames) k, there) (ap (λ (b : List ℕ). Some b) (sym (frame_there frames k f a h).is))

-- of messages in their ranges the rest are too

pub fit_from : (issued : List (ℕ × Msg)) (i : ℕ) (d : ℕ × Msg) → i < length issued → AllFit (drop i issued) → Fits (get_or issued i d).1 × AllFit (drop (i + 1) issued)
unfolding AllFit
fit_from issued i d lt a = subst AllFit (at_drop_more (λ (ys : List (ℕ × Msg)). ys) issued i d lt) a

pub all_fit : (issued : List (ℕ × Msg)) → AllIn Fits issued → AllFit issued
unfolding AllIn AllFit
all_fit [] a = tt
all_fit (x ∷ issued) a = (a.0, all_fit issued a.1)

pub read_there : (frames : List (ArrayVec ℕ)) (k : ℕ) (f : ArrayVec ℕ) → AreFrames frames → slice_get frames k ≡ Some f → frame_at f.items ≡ Ok (read_frame f.items)
read_there frames k f a h = (frame_there frames k f a h).reads

pub read_once : (x y : Msg) (r : Result Msg FrameFault) → r ≡ Ok x → r ≡ Ok y → x ≡ y
read_once x y r h k = ap of_frame (sym h ∙ k)

pub written : (n : ℕ) (frame rest out : List ℕ) → n ≡ length frame → out ≡ frame ++ rest → take n out ≡ frame
written n frame rest out is all = rw (is, all) (take-append_seam frame rest)

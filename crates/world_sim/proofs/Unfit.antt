-- An authority that makes no way is none on the line.
use Rattle.std.proofs.Common.{◌≡◌, ℕ, ◌+◌, false, List, take, drop, refl, Err}
use Rattle.std.proofs.lemmas.List.{take-append-drop}
use Rattle.list_laws.proofs.By_test.{by_test}
use Rattle.track_points.specs.declared.ids.DirSeg.{DirSeg}
use Rattle.track_points.specs.declared.path.Path.{Path}
use Rattle.track_points.specs.Points.{no_segment_twice}
use Rattle.definitions.specs.Track.{Line}
use Rattle.definitions.specs.Ways.{chained}
use Rattle.way_laws.proofs.Chained_front.{chained_front, once_front}
use Rattle.way_path.specs.declared.way.WayFault.{WayFault}
use Rattle.way_path.specs.declared.way.WayFault.TheVariants.{NotJoined, Repeated, OutOfRange, Throats, Full}
use Rattle.way_path.specs.Ways.{NotJoinedAt, RepeatedAt, Makes}
use Rattle.plain_state.specs.World.{auth_fits}

not_chained : (line : Line) (steps : List DirSeg) (i : ℕ) → NotJoinedAt line steps i → chained line steps ≡ false
not_chained line steps i h = by_test (chained line steps)
    (λ y. absurd (let front = chained_front line (take (i + 1) steps) (drop (i + 1) steps) (rw (take-append-drop (i + 1) steps) y) in let w = h.with_it in cc))
    (λ n. n)

twice : (steps : List DirSeg) (i : ℕ) → RepeatedAt steps i → no_segment_twice steps ≡ false
twice steps i h = by_test (no_segment_twice steps)
    (λ y. absurd (let front = once_front (take (i + 1) steps) (drop (i + 1) steps) (rw (take-append-drop (i + 1) steps) y) in let w = h.with_it in cc))
    (λ n. n)

pub unfit : (line : Line) (mark : ℕ) (path : Path) (fault : WayFault) → Makes line mark path (Err fault) → auth_fits line mark path ≡ false
unfit line mark path (NotJoined i) h = rw (not_chained line path.steps.items i h) refl
unfit line mark path (Repeated i) h = rw (h.0, twice path.steps.items i h.1) refl
unfit line mark path OutOfRange h = rw (h.0, h.1, h.2) refl
unfit line mark path Throats h = absurd h
unfit line mark path Full h = absurd h

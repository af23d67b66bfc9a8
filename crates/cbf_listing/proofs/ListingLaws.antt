-- What is answered where the lent output has room for a text and where it has not, for the listing of a file and for
-- the line of a refusal. Assumes nothing.
use mathlib.Core.Path.{◌≡◌, refl, ◌∙◌}
use Rattle.std.specs.Prelude.{Result, Ok, Err}
use mathlib.Core.Bool.{Bool, true}
use mathlib.Core.List.{List, [], ◌∷◌, ◌++◌}
use Prim.Native.Nat.{ℕ, ◌+◌, ◌≤◌, ◌<◌}
use native.Mathlib.Omega.{arith}
use lib.ListN.{length, length-append}
use Rattle.cbf_walk.specs.Reading.{Item, Reading, refused, good}
use Rattle.cbf_answers.specs.Answers.{gives, refuses, written}
use Rattle.cbf_answers.specs.declared.Refusal.{Refusal}
use Rattle.cbf_format.specs.Text.{bytes}
use Rattle.cbf_format.specs.Listing.{printed, listing}
use Rattle.cbf_answers.specs.Rooms.{room_for}
use Rattle.cbf_answers.proofs.Rooms.{Says, refusal, no_room, has_room}
use Rattle.cbf_format.specs.ListCalls.{list_outcome, shown}
use Rattle.cbf_listing.specs.Lines.{lines_of, lines_in, Fits}
use Rattle.cbf_write.proofs.PutLaws.{Put, put_both}
use Rattle.cbf_reader.proofs.LoopLaws.{refused-off}
use Rattle.cbf_format.specs.Sections as S
use Rattle.cbf_format.specs.Files as F

-- ---- the listing of what reading gives

-- a file that is refused has no lines, and none are written: an output that fits has a file that is accepted
pub refused-lines : (writing : Bool) (old : List ℕ) (f : Refusal)
    → (writing ≡ true → Fits (refused f.number f.place) old)
    → (Err f ≡ lines_of (refused f.number f.place)) × (old ≡ lines_in writing (refused f.number f.place) old)
refused-lines writing old f fits = (refl, rw (refused-off writing (λ on. ((fits on).0, (fits on).1)) refl))

pub list-refused : (r : Reading (Item F.State S.Section)) (old : List ℕ) (f : Refusal) → Err f ≡ lines_of r
    → Says (list_outcome r (length old)) (listing r) old (refuses f.number f.place) old
unfolding list_outcome
list-refused (refused k p) old f e = refusal (listing (refused k p)) old (cc)
list-refused (good its) old f e = let z : ◌≡◌ {A = ℕ} 0 1 = cc in absurd (omega arith)

-- a file with a length of its lines is accepted
accepted : (r : Reading (Item F.State S.Section)) (n : ℕ) → Ok n ≡ lines_of r
    → (its : F.Tree) × (r ≡ good its) × (n ≡ length (listing r)) × ((room : ℕ) → list_outcome r room ≡ room_for (listing r) room)
unfolding list_outcome
accepted (refused k p) n e = let z : ◌≡◌ {A = ℕ} 0 1 = cc in absurd (omega arith)
accepted (good its) n e = (its, refl, cc, λ room. refl)

pub list-no-room : (r : Reading (Item F.State S.Section)) (old : List ℕ) (n : ℕ) → Ok n ≡ lines_of r → length old < n
    → Says (list_outcome r (length old)) (listing r) old (refuses 15 0) old
list-no-room r old n e h = let a = accepted r n e in no_room (listing r) old (a.3 (length old)) a.2 h

pub list-has-room : (r : Reading (Item F.State S.Section)) (old : List ℕ) (n : ℕ) → Ok n ≡ lines_of r → n ≤ length old
    → Fits r old × Says (list_outcome r (length old)) (listing r) old (gives n) (lines_in true r old)
list-has-room r old n e h =
    let a = accepted r n e in
    ((a.0, a.1, rw (← a.1) (rw a.2 at h)), has_room (listing r) old (a.3 (length old)) a.2 h)

-- what is shown where there is a listing, and where there is a refusal
pub shown-listing : (r : Reading (Item F.State S.Section)) (room n : ℕ) → gives n ≡ list_outcome r room
    → (shown r room ≡ listing r) × (list_outcome r room ≡ room_for (listing r) room)
unfolding list_outcome shown
shown-listing (refused k p) room n e = let z : ◌≡◌ {A = ℕ} 0 1 = cc in absurd (omega arith)
shown-listing (good its) room n e = (rw (← e), refl)

pub shown-refusal : (r : Reading (Item F.State S.Section)) (old : List ℕ) {new : List ℕ} (k p : ℕ) → refuses k p ≡ list_outcome r (length old)
    → new ≡ written (list_outcome r (length old)) (listing r) old
    → (shown r (length old) ≡ listing (refused k p)) × (new ≡ old)
unfolding shown written
shown-refusal r old k p e u = (rw (← e), u ∙ rw (← e))

-- ---- the line of a refusal

pub refusal-length : (k p : ℕ) → length (listing (refused k p)) ≡ 13 + length (printed k) + length (printed p)
unfolding listing
refusal-length k p = simp length-append (omega arith)

-- its parts, put one after another
pub refusal-put : (old : List ℕ) (k p : ℕ) {o1 o2 o3 o4 new : List ℕ} {r1 r2 r3 r4 r : ℕ}
    → Put old 0 (bytes "refused ") r1 o1
    → Put o1 r1 (printed k) r2 o2
    → Put o2 r2 (bytes " at ") r3 o3
    → Put o3 r3 (printed p) r4 o4
    → Put o4 r4 (10 ∷ []) r new
    → Put old 0 (listing (refused k p)) r new
unfolding listing
refusal-put old k p {o1} {o2} {o3} {o4} {new} {r1} {r2} {r3} q1 q2 q3 q4 q5 =
    let l4 = printed p ++ (10 ∷ []) in
    let l3 = bytes " at " ++ l4 in
    let l2 = printed k ++ l3 in
    put_both old 0 (bytes "refused ") l2 q1
    (put_both o1 r1 (printed k) l3 q2 (put_both o2 r2 (bytes " at ") l4 q3 (put_both o3 r3 (printed p) (10 ∷ []) q4 q5)))

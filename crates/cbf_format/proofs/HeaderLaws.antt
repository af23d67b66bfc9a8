-- Header lines that are written, each ended 13 10, are read as themselves, and a line of a known header gives that
-- header's value. Assumes nothing.
use mathlib.Core.Path.{◌≡◌, refl, ap, ◌∙◌}
use Rattle.std.specs.Prelude.{None, Some}
use Rattle.std.proofs.lemmas.Option.{none-some}
use mathlib.Core.Bool.{Bool, true, false, cond, not}
use mathlib.Core.List.{List, [], ◌∷◌, ◌++◌, append_assoc, append-nil}
use Prim.Native.Nat.{ℕ, zero, suc, ◌+◌, ◌≤◌, ◌<◌}
use native.Mathlib.Nat.{not-suc-le-zero}
use native.Mathlib.Omega.{arith}
use lib.Dec.{eqb}
use borrow.Author.Tests.{lt-ltb, ne_eqb}
use lib.ListN.{length, drop, length-append}
use lib.Seq.{drop-append-add}
use Rattle.cbf_walk.specs.Parsers.{ok, ret, counted, onward}
use Rattle.cbf_walk.proofs.ParserLaws.{bind-at, counted-ok}
use Rattle.cbf_format.specs.Text.{blank, textual, trim}
use Rattle.cbf_format.specs.Lines.{line, refused_byte}
use Rattle.cbf_format.specs.Headers.{split_colon, some_name, continues, malformed, header_line, add_line, more_lines}
use Rattle.cbf_format.specs.Headers.{header_lines, group}
use Rattle.cbf_format.specs.declared.KnownHeader.{KnownHeader}
use Rattle.cbf_format.specs.Values.{known_headers, header_named, value_of}
use Rattle.cbf_format.specs.Descriptions.{found, look, judge}
use Rattle.cbf_format.specs.House.{ended_lines}
use Rattle.cbf_format.proofs.LineTame.{unrefused}

-- ---- a line

text-no-end : (x : ℕ) → textual x ≡ true → (eqb x 10 ≡ false) × (eqb x 13 ≡ false)
text-no-end x h = (
  ne_eqb x 10 (λ e. let q : false ≡ true = rw e at h in let z : ◌≡◌ {A = ℕ} 0 1 = cc in omega arith),
  ne_eqb x 13 (λ e. let q : false ≡ true = rw e at h in let z : ◌≡◌ {A = ℕ} 0 1 = cc in omega arith),
)

-- a text line is one for any greater limit
refused-more : (limit most i : ℕ) (t : List ℕ) → limit ≤ most → refused_byte limit i t ≡ None → refused_byte most i t ≡ None
refused-more limit most i [] l h = refl
refused-more limit most i (x ∷ t) l h = let u = unrefused limit i x t h in rw (u.0, lt-ltb i most (omega arith)) (refused-more limit most (suc i) t l u.2)

line-ended : (limit i : ℕ) (t r : List ℕ) → refused_byte limit i t ≡ None → line (t ++ (13 ∷ 10 ∷ r)) ≡ ok t (length t + 2)
line-ended limit i [] r h = refl
line-ended limit i (x ∷ t) r h =
    let u = unrefused limit i x t h in
    let e = text-no-end x u.0 in
    rw (e.0, e.1, line-ended limit (suc i) t r u.2) (ap (λ (n : ℕ). ok (x ∷ t) n) (omega arith))

-- a line that can be written
pub record Written (limit : ℕ) (first : Bool) (l : List ℕ) : Type 0 where
  pub some_byte : 0 < length l
  pub fine : refused_byte limit 0 l ≡ None
  pub formed : malformed first l ≡ false

header_line-ended : (limit most : ℕ) (first : Bool) (l r : List ℕ) → limit ≤ most → Written limit first l
    → header_line most first (l ++ (13 ∷ 10 ∷ r)) ≡ ok l (length l + 2)
unfolding header_line
header_line-ended limit most first l r h w = rw (line-ended limit 0 l r w.fine) (rw (refused-more limit most 0 l h w.fine, w.formed))

-- ---- lines

unfoldable pub AllWritten : ℕ → Bool → List (List ℕ) → Type 0
AllWritten limit first [] = Unit {0}
AllWritten limit first (l ∷ ls) = Written limit first l × AllWritten limit false ls

-- the lines with their places, where the first is at a place
unfoldable pub placed : ℕ → List (List ℕ) → List (ℕ × List ℕ)
placed at [] = []
placed at (l ∷ ls) = (at, l) ∷ placed (at + (length l + 2)) ls

pub header_lines-ended : (limit most f : ℕ) (first : Bool) (at : ℕ) (ls : List (List ℕ)) (r : List ℕ) → limit ≤ most → length ls < f → AllWritten limit first ls
    → header_lines most f first at (ended_lines ls ++ (13 ∷ 10 ∷ r))
    ≡ ok (record { lines = placed at ls; empty = at + length (ended_lines ls) }) (length (ended_lines ls) + 2)
unfolding header_lines header_line ended_lines AllWritten placed
header_lines-ended limit most zero first at ls r m h w = absurd (not-suc-le-zero h)
header_lines-ended limit most (suc f) first at [] r m h w = let e : at ≡ at + 0 = omega arith in ap (λ (k : ℕ). ok (record { lines = []; empty = k }) 2) e
header_lines-ended limit most (suc f) first at ([] ∷ ls) r m h w = absurd (not-suc-le-zero w.0.some_byte)
header_lines-ended limit most (suc f) first at ((x ∷ l) ∷ ls) r m h w =
    let t = x ∷ l in
    let n = length t + 2 in
    let R = ended_lines ls ++ (13 ∷ 10 ∷ r) in
    let shape : ended_lines (t ∷ ls) ++ (13 ∷ 10 ∷ r) ≡ t ++ (13 ∷ 10 ∷ R) = simp append_assoc in
    let total : length (ended_lines (t ∷ ls)) ≡ n + length (ended_lines ls) = simp length-append (omega arith) in
    let place : at + n + length (ended_lines ls) ≡ at + length (ended_lines (t ∷ ls)) = omega arith in
    let count : n + (length (ended_lines ls) + 2 + 0) ≡ length (ended_lines (t ∷ ls)) + 2 = omega arith in
    ap (header_lines most (suc f) first at) shape
    ∙ bind-at (onward (λ r. counted (header_line most first r))) (more_lines (λ m. header_lines most f false m) at) (t ++ (13 ∷ 10 ∷ R)) R n
    (counted-ok (header_line-ended limit most first t R m w.0))
    (drop-append-add t (13 ∷ 10 ∷ R) 2)
    (bind-at (λ s. header_lines most f false (at + n) s) (λ hs. ret (add_line at t hs)) R
    (drop (length (ended_lines ls) + 2) R) (length (ended_lines ls) + 2) {m = 0}
    (header_lines-ended limit most f false (at + n) ls r m (omega arith) w.1)
    refl
    refl)
    ∙ (λ i. ok (record { lines = placed at (t ∷ ls); empty = place i }) (count i))

-- ---- what lines say

-- a line of header k with the value n
pub record Gives (limit : ℕ) (k : KnownHeader) (n : ℕ) (l : List ℕ) : Type 0 where
  pub name : List ℕ
  pub value : List ℕ
  pub formed : malformed true l ≡ false
  pub split : split_colon l ≡ Some (name, value)
  pub is_known : header_named known_headers name ≡ Some k
  pub is_value : value_of k (trim value) ≡ Some n
  pub fine : refused_byte limit 0 l ≡ None

-- at most so many lines, that can be written; they begin with a header; and with the headers found before, they are
-- judged to be these
pub record Say (limit most : ℕ) (ls : List (List ℕ)) (before after : List (KnownHeader × ℕ)) : Type 0 where
  pub few : length ls ≤ most
  pub written : AllWritten limit false ls
  pub whole : (at : ℕ) → (group (placed at ls)).text ≡ []
  pub judged : (at : ℕ) → judge (group (placed at ls)).headers before ≡ found after

pub say-none : (limit : ℕ) (fs : List (KnownHeader × ℕ)) → Say limit 0 [] fs fs
unfolding AllWritten placed judge
say-none limit fs = record { few = omega arith; written = tt; whole = λ at. refl; judged = λ at. refl }

starts : (l : List ℕ) → malformed true l ≡ false → (continues l ≡ false) × (malformed false l ≡ false)
starts [] h = (refl, refl)
starts (x ∷ t) h = go (blank x) h
  where
    go : (b : Bool) → cond b true (not (some_name (split_colon (x ∷ t)))) ≡ false → (b ≡ false) × (cond b false (not (some_name (split_colon (x ∷ t)))) ≡ false)
    go true h = let z : ◌≡◌ {A = ℕ} 0 1 = cc in absurd (omega arith)
    go false h = (refl, h)

some_bytes : (l : List ℕ) (nv : List ℕ × List ℕ) → split_colon l ≡ Some nv → 0 < length l
some_bytes [] nv e = absurd (none-some nv e)
some_bytes (x ∷ l) nv e = omega arith

module _ {limit : ℕ} {k : KnownHeader} {n : ℕ} {l : List ℕ} (g : Gives limit k n l) where
  pub gives-written : Written limit false l
  gives-written = record { some_byte = some_bytes l (g.name, g.value) g.split; fine = g.fine; formed = (starts l g.formed).1 }

  pub say-line : {most : ℕ} {ls : List (List ℕ)} {before after : List (KnownHeader × ℕ)} → look k before ≡ None → Say limit most ls ((k, n) ∷ before) after
      → Say limit (suc most) (l ∷ ls) before after
  unfolding AllWritten placed judge
  say-line e s = record {
    few = omega arith;
    written = (gives-written, s.written);
    whole = λ at. rw ((starts l g.formed).0, g.split);
    judged = λ at.
        let next = at + (length l + 2) in
        rw ((starts l g.formed).0, g.split, s.whole next, append-nil g.value, g.is_known, e, g.is_value) (s.judged next);
  }

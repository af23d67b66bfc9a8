-- Octets written from letters: group after group, letters side by side or wherever they stand, stretch after stretch
-- of a text. Assumes nothing.
use mathlib.Core.Path.{◌≡◌, refl, sym, ap, ◌∙◌}
use mathlib.Core.Logic.{⊎_elim}
use mathlib.Core.Bool.{true}
use mathlib.Core.List.{List, [], ◌∷◌, ◌++◌, append_assoc}
use Prim.Native.Nat.{ℕ, zero, suc, ◌+◌, ◌*◌, ◌/◌, ◌%◌, ◌<◌, ◌≤◌}
use native.Mathlib.Numerals.{add-one, add-two, add-three}
use native.Mathlib.Omega.{arith}
use lib.ListN.{length, take, drop, get_or, length-append, get_or-append}
use lib.Seq.{sets, slice, length-sets, sets-eq, take-add, take-take, take_at, drop-cons, length-take-le, length-slice}
use lib.Seq.{slice-cons, slice_empty}
use Rattle.cbf_format.specs.declared.Symbol.{Symbol}
use Rattle.cbf_format.specs.declared.Symbol.TheVariants.{Letter, Pad, Blank, Other}
use Rattle.cbf_format.specs.Base64.{symbol}
use Rattle.cbf_answers.proofs.Stores.{sets_then}
use Rattle.cbf_lines.specs.Text.{is_letter, Run}
use Rattle.cbf_lines.proofs.TextLaws.{run-then, get_or-slice}
use Rattle.cbf_lines.proofs.ClosingLaws.{slice-then}
use Rattle.cbf_format.proofs.Base64Laws.{symbol-letter}
use Rattle.cbf_letters.specs.Letters.{add_six, sixes, group_octets, sixes_octets}
use Rattle.cbf_letters.specs.Octets.{LettersOnly, SixesOnly, NextLetterSays, text_octets, Decodes}
use Rattle.cbf_letters.proofs.SixesLaws.{sixes-append, joined-append, joined_length}

-- ---- groups one after another

-- the four numbers from i on
four-at : (l : List ℕ) (i : ℕ) → i + 4 ≤ length l
    → take 4 (drop i l) ≡ get_or l i 0 ∷ get_or l (i + 1) 0 ∷ get_or l (i + 2) 0 ∷ get_or l (i + 3) 0 ∷ []
four-at l i h =
    rw (add-one, add-two, add-three, from i (omega arith), from (suc i) (omega arith), from (suc (suc i)) (omega arith), from (suc (suc (suc i))) (omega arith))
  where
    from : (j : ℕ) → j < length l → drop j l ≡ get_or l j 0 ∷ drop (suc j) l
    from j k = drop-cons l j 0 k

-- a turn of the loop that writes groups
pub join-turn : (l old : List ℕ) (at j : ℕ) {out new : List ℕ} → 4 * j + 4 ≤ length l → out ≡ sets old at (sixes_octets (take (4 * j) l))
    → new ≡ sets out (at + 3 * j) (group_octets (get_or l (4 * j) 0) (get_or l (4 * j + 1) 0) (get_or l (4 * j + 2) 0) (get_or l (4 * j + 3) 0))
    → new ≡ sets old at (sixes_octets (take (4 * (j + 1)) l))
unfolding sixes_octets
join-turn l old at j h e q =
    let g : List ℕ = get_or l (4 * j) 0 ∷ get_or l (4 * j + 1) 0 ∷ get_or l (4 * j + 2) 0 ∷ get_or l (4 * j + 3) 0 ∷ [] in
    let n : length (take (4 * j) l) ≡ 4 * j = length-take-le (4 * j) l (omega arith) in
    let m : 4 * j + 4 ≡ 4 * (j + 1) = omega arith in
    let f : take (4 * j) l ++ g ≡ take (4 * j + 4) l = rw (← (four-at l (4 * j) h)) (sym (take-add (4 * j) 4 l)) in
    let t : take (4 * j + 4) l ≡ take (4 * (j + 1)) l = rw m in
    q
    ∙ rw e (sets_then old at (3 * j) (sixes_octets (take (4 * j) l)) (sixes_octets g) (joined_length j (take (4 * j) l) n))
    ∙ ap (sets old at) (sym (joined-append j (take (4 * j) l) g n) ∙ ap sixes_octets (f ∙ t))

-- the first group; where letters lack, zeros stand for them
joined-group : (x : ℕ) (l : List ℕ)
    → sixes_octets (x ∷ l) ≡ group_octets x (get_or l 0 0) (get_or (drop 1 l) 0 0) (get_or (drop 1 (drop 1 l)) 0 0) ++ sixes_octets (drop 1 (drop 1 (drop 1 l)))
unfolding sixes_octets
joined-group x [] = refl
joined-group x (a ∷ []) = refl
joined-group x (a ∷ b ∷ []) = refl
joined-group x (a ∷ b ∷ c ∷ l) = refl

-- ---- letters that stand side by side

added-letter : (s : Symbol) (l : List ℕ) → is_letter s ≡ true → length (add_six s l) ≡ suc (length l)
added-letter (Letter n) l h = refl
added-letter Pad l h = let z : ◌≡◌ {A = ℕ} 0 1 = cc in absurd (omega arith)
added-letter Blank l h = let z : ◌≡◌ {A = ℕ} 0 1 = cc in absurd (omega arith)
added-letter Other l h = let z : ◌≡◌ {A = ℕ} 0 1 = cc in absurd (omega arith)

-- letters have as many numbers
only-letters : (l : List ℕ) → ((i : ℕ) → i < length l → is_letter (symbol (get_or l i 0)) ≡ true) → length (sixes l) ≡ length l
unfolding sixes
only-letters [] h = refl
only-letters (x ∷ l) h = added-letter (symbol x) (sixes l) (h 0 (omega arith)) ∙ ap suc (only-letters l (λ i k. h (suc i) (omega arith)))

-- the numbers of a text have six bits
sixes-small : (l : List ℕ) (i : ℕ) → get_or (sixes l) i 0 < 64
unfolding sixes
sixes-small [] i = omega arith
sixes-small (x ∷ l) i = go (symbol x) i (symbol-letter x) (sixes-small l)
  where
    go : (s : Symbol) (i : ℕ) → ((n : ℕ) → s ≡ Letter n → n < 64) → ((i : ℕ) → get_or (sixes l) i 0 < 64) → get_or (add_six s (sixes l)) i 0 < 64
    go (Letter n) zero h more = h n refl
    go (Letter n) (suc i) h more = more i
    go Pad i h more = more i
    go Blank i h more = more i
    go Other i h more = more i

-- ---- one stretch of a text after another

slice-append : (l : List ℕ) (a b c : ℕ) → a ≤ b → b ≤ c → c ≤ length l → slice a c l ≡ slice a b l ++ slice b c l
slice-append l a b c h k m =
    sym (slice-then (take c l) a b h (omega (arith, length-take-le c l m))) ∙ ap (λ (t : List ℕ). drop a t ++ slice b c l) (take-take b c l k)

module _ {file : List ℕ} {to : ℕ} where
  -- what was decoded keeps the length
  pub decodes-length : {at : ℕ} {out : List ℕ} {from : ℕ} {new : List ℕ} {at' end : ℕ} → Decodes file at to out from new at' end → length new ≡ length out
  decodes-length {out = out} {from = from} d = ap length d.wrote ∙ length-sets out from d.octets

  -- nothing is decoded over bytes that are no letters
  pub decodes-none : {at : ℕ} {out : List ℕ} {from at' : ℕ} → at ≤ at' → at' ≤ to → from ≤ length out → sixes (slice at to file) ≡ sixes (slice at' to file)
      → Decodes file at to out from out at' from
  decodes-none h k r e = record { octets = []; many = omega arith; wrote = refl; rest = ap sixes_octets e; low = h; high = k; room = r }

  pub decodes-both : {at : ℕ} {out : List ℕ} {from : ℕ} {mid : List ℕ} {at' k : ℕ} {new : List ℕ} {at'' end : ℕ} → Decodes file at to out from mid at' k
      → Decodes file at' to mid k new at'' end
      → Decodes file at to out from new at'' end
  decodes-both {out = out} {from = from} p q =
      record {
        octets = p.octets ++ q.octets;
        many = omega (arith, length-append p.octets q.octets, p.many, q.many);
        wrote = q.wrote ∙ rw (p.wrote, ← p.many) (sets_then out from (length p.octets) p.octets q.octets refl);
        rest = p.rest ∙ ap (λ (os : List ℕ). p.octets ++ os) q.rest ∙ sym (append_assoc p.octets q.octets _);
        low = omega (arith, p.low, q.low);
        high = q.high;
        room = omega (arith, q.room, decodes-length p);
      }

  -- up to the next letter nothing more is decoded
  pub decodes-past : {at : ℕ} {out : List ℕ} {from : ℕ} {mid : List ℕ} {at' k at'' : ℕ} → Decodes file at to out from mid at' k
      → at' ≤ at'' → at'' ≤ to → sixes (slice at' to file) ≡ sixes (slice at'' to file) → Decodes file at to out from mid at'' k
  decodes-past d h m e = decodes-both d (decodes-none h m (omega (arith, d.room, decodes-length d)) e)

  -- a run of no letters
  pub decodes-still : {at : ℕ} {out : List ℕ} {from : ℕ} {new : List ℕ} (n : ℕ) → n ≡ 0
      → Decodes file at to out from new (at + n) (from + n / 4 * 3)
      → Decodes file at to out from new at from
  decodes-still {at} {out} {from} n z d =
      let e : at + n ≡ at = omega arith in
      let f : from + n / 4 * 3 ≡ from = omega arith in
      rw f at (rw e at d)

  -- no octets are left at the end
  pub octets-end : {at : ℕ} {out : List ℕ} {from : ℕ} {new : List ℕ} {at' end : ℕ} → Decodes file at to out from new at' end → to ≤ at'
      → text_octets file at' to ≡ []
  unfolding sixes_octets sixes
  octets-end {at' = at'} d h = let e : at' ≡ to = omega (arith, d.high) in rw (e, slice_empty)

  -- ---- letters wherever they stand

  -- the next letter's number is the first, and 0 where there is none
  next-number : {at n next : ℕ} → NextLetterSays file at to n next
      → (get_or (sixes (slice at to file)) 0 0 ≡ n) × (drop 1 (sixes (slice at to file)) ≡ sixes (slice next to file))
  unfolding sixes
  next-number s = ⊎_elim (λ w. rw w.1 (refl, refl)) (λ w. rw (w.0, w.1, w.2, slice_empty) (refl, refl)) s.says

  module _ {at a p : ℕ} (h : at < to) (fits : to ≤ length file) (letter : is_letter (symbol (get_or file at 0)) ≡ true)
      (first : NextLetterSays file at to a p) where
    -- the next letter of a place where one stands
    here : (at < p) × (sixes (slice at to file) ≡ a ∷ sixes (slice p to file))
    unfolding sixes
    here = ⊎_elim (λ w. w) (λ w. absurd (none w.2)) first.says
      where
        none : sixes (slice at to file) ≡ [] → ⊥
        none e =
            let q = ap (λ (t : List ℕ). length (sixes t)) (slice-cons at to file 0 h fits) in
            let n = added-letter (symbol (get_or file at 0)) (sixes (slice (suc at) to file)) letter in
            omega (arith, ap length e)

    pub decodes-group : {b q c r d s : ℕ} → NextLetterSays file p to b q → NextLetterSays file q to c r
        → NextLetterSays file r to d s → {out : List ℕ} {from : ℕ} {new : List ℕ}
        → from + 3 ≤ length out
        → new ≡ sets out from (group_octets a b c d)
        → (at < s) × Decodes file at to out from new s (from + 3)
    decodes-group {b} {q} {c} {r} {d} second third last room wrote =
        let x = next-number second in
        let y = next-number third in
        let z = next-number last in (
          omega (arith, here.0, second.low, third.low, last.low),
          record {
            octets = group_octets a b c d;
            many = refl;
            wrote = wrote;
            rest = ap sixes_octets here.1 ∙ joined-group a (sixes (slice p to file)) ∙ rw (x.1, y.1, z.1, x.0, y.0, z.0) refl;
            low = omega (arith, first.low, second.low, third.low, last.low);
            high = last.high;
            room = room;
          },
        )

-- ---- a run of letters

-- n letters stand side by side, at most 128; their octets have room in out
pub record LetterRun (file : List ℕ) (at to n : ℕ) (out : List ℕ) (from : ℕ) : Type 0 where
  pub within : at + n ≤ to
  pub inside : to ≤ length file
  pub few : n ≤ 128
  pub room : from + n / 4 * 3 ≤ length out
  pub groups : n % 4 ≡ 0
  pub only : LettersOnly file at (at + n)

-- letters up to a place, and on from there
pub letters-both : (file : List ℕ) (a b c : ℕ) → a ≤ b → b ≤ c → LettersOnly file a b → LettersOnly file b c → LettersOnly file a c
letters-both file a b c h k p q = (run-then (all a b h p) (all b c k q)).each
  where
    all : (a b : ℕ) → a ≤ b → LettersOnly file a b → Run (λ (x : ℕ). is_letter (symbol x)) file a b b
    all a b h p = record { low = h; high = omega arith; each = p; stops = λ k. absurd (omega arith) }

-- the numbers of a stretch of a text
abbrev numbers_at : List ℕ → ℕ → ℕ → List ℕ
numbers_at file at n = sixes (slice at (at + n) file)

module _ {file : List ℕ} {at to n : ℕ} {out : List ℕ} {from : ℕ} (run : LetterRun file at to n out from) where
  -- they have n numbers
  numbers-count : length (numbers_at file at n) ≡ 4 * (n / 4)
  numbers-count = let g = run.groups in omega (arith, long, only-letters (slice at (at + n) file) each)
    where
      long : length (slice at (at + n) file) ≡ n
      long = omega (arith, length-slice at (at + n) file (omega (arith, run.within, run.inside)))

      each : (i : ℕ) → i < length (slice at (at + n) file) → is_letter (symbol (get_or (slice at (at + n) file) i 0)) ≡ true
      each i k = rw (get_or-slice at (at + n) file i (omega (arith, long))) (run.only (at + i) (omega arith) (omega (arith, long)))

  -- which were written to the front of an array
  module _ (array : List ℕ) (wide : length array ≡ 128) {numbers : List ℕ} (stored : numbers ≡ sets array 0 (numbers_at file at n)) where
    front : numbers ≡ numbers_at file at n ++ drop (0 + length (numbers_at file at n)) array
    front = stored ∙ sets-eq (numbers_at file at n) array 0 (omega (arith, numbers-count, run.few))

    pub numbers-small : SixesOnly numbers (4 * (n / 4))
    numbers-small i h =
        let k : i < length (numbers_at file at n) = omega (arith, numbers-count) in
        rw (front, get_or-append (numbers_at file at n) (drop (0 + length (numbers_at file at n)) array) 0 i k) (sixes-small (slice at (at + n) file) i)

    numbers-front : take (4 * (n / 4)) numbers ≡ numbers_at file at n
    numbers-front = rw front (take_at (numbers_at file at n) (drop (0 + length (numbers_at file at n)) array) (4 * (n / 4)) numbers-count)

    -- and joined
    pub decodes-run : {new : List ℕ} → new ≡ sets out from (sixes_octets (take (4 * (n / 4)) numbers))
        → Decodes file at to out from new (at + n) (from + n / 4 * 3)
    decodes-run wrote =
        record {
          octets = sixes_octets (numbers_at file at n);
          many = omega (arith, joined_length (n / 4) (numbers_at file at n) numbers-count);
          wrote = wrote ∙ ap (λ (l : List ℕ). sets out from (sixes_octets l)) numbers-front;
          rest =
              ap (λ (t : List ℕ). sixes_octets (sixes t)) (slice-append file at (at + n) to (omega arith) run.within run.inside)
              ∙ ap sixes_octets (sixes-append (slice at (at + n) file) (slice (at + n) to file))
              ∙ joined-append (n / 4) (numbers_at file at n) (sixes (slice (at + n) to file)) numbers-count;
          low = omega arith;
          high = run.within;
          room = run.room;
        }

-- The chosen sections that are still ahead, and the part of the new file that is made: up to the next chosen section,
-- with it, and the end. Assumes nothing.
use mathlib.Core.Path.{◌≡◌, refl, sym, ap, ◌∙◌, subst}
use Rattle.std.specs.Prelude.{Option, None, Some}
use mathlib.Core.List.{List, [], ◌∷◌, ◌++◌, append_assoc}
use Prim.Native.Nat.{ℕ, suc, ◌+◌, ◌-◌, ◌≤◌, ◌<◌}
use native.Mathlib.Omega.{arith}
use borrow.Author.Tests.{eq-eqb, ne_eqb}
use lib.ListN.{length, drop}
use lib.Seq.{slice}
use lib.IntN.{ℤ}
use Rattle.std.proofs.lemmas.List.{drop-drop}
use Rattle.cbf_walk.specs.Exchange.{Exchange, exchanged}
use Rattle.cbf_pixels.specs.Pixels.{pack_byte_offset}
use Rattle.cbf_format.specs.Listing.{Placed}
use Rattle.cbf_format.specs.House.{house, NewOctets, later_or, add_exchange, exchanges}
use Rattle.cbf_format.proofs.ReplacementLaws.{exchanges-same, exchanges-none}
use Rattle.cbf_rewrite.specs.declared.rewrite.Chosen.{Chosen}
use Rattle.cbf_rewrite.specs.Rewrite.{chosen_frames, new_octets, ChosenSection, ChosenSections}
use Rattle.cbf_rewrite.proofs.ExchangesLaws.{exchanges-skip, Ordered, ordered-drop}

-- ---- chosen sections

later-none : (o : Option (List ℕ)) → later_or None o ≡ o
later-none None = refl
later-none (Some os) = refl

-- the octets of the chosen sections that are ahead
abbrev pub octets_from : ℕ → List Chosen → List ℤ → NewOctets
octets_from first cs frames = new_octets (chosen_frames first cs frames)

module _ (count : ℕ) (frames : List ℤ) where
  -- a section before them has no new octets
  pub octets-before : (last first : ℕ) (cs : List Chosen) (m : ℕ) → ChosenSections last count first frames cs
      → m ≤ last → octets_from first cs frames m ≡ None
  unfolding ChosenSections chosen_frames new_octets
  octets-before last first [] m c h = refl
  octets-before last first (x ∷ cs) m c h =
      let below : m < x.number = omega (arith, c.0.above) in
      rw (octets-before x.number x.end cs m c.1 (omega arith), ne_eqb m x.number (λ q. omega arith)) refl

  module _ (last first : ℕ) (x : Chosen) (cs : List Chosen) (c : ChosenSections last count first frames (x ∷ cs)) where
    pub choice : ChosenSection last count first frames x
    unfolding ChosenSections
    choice = c.0

    choices-after : ChosenSections x.number count x.end frames cs
    unfolding ChosenSections
    choices-after = c.1

    -- a section before it may be passed
    choices-on : (m : ℕ) → m < x.number → ChosenSections m count first frames (x ∷ cs)
    unfolding ChosenSections
    choices-on m h =
        let d = c.0 in
        (record { above = h; there = d.there; low = d.low; high = d.high; packed = d.packed; few = d.few }, c.1)

    octets-below : (m : ℕ) → m < x.number → octets_from first (x ∷ cs) frames m ≡ None
    octets-below m h = octets-before m first (x ∷ cs) m (choices-on m h) (omega arith)

    octets-here : octets_from first (x ∷ cs) frames x.number ≡ Some (pack_byte_offset (slice first x.end frames))
    unfolding chosen_frames new_octets
    octets-here =
        rw (octets-before x.number x.end cs x.number choices-after (omega arith), eq-eqb x.number x.number refl) refl

    octets-after : (m : ℕ) → suc x.number ≤ m → octets_from first (x ∷ cs) frames m ≡ octets_from x.end cs frames m
    unfolding chosen_frames new_octets
    octets-after m h = rw (ne_eqb m x.number (λ q. omega arith)) (later-none (octets_from x.end cs frames m))

-- ---- the new file

-- of a new file the part `done` is made: of the sections, the first n are passed, and from the place `from` the file
-- is still to be copied
pub record Made (file : List ℕ) (ps : List Placed) (frames : List ℤ) (new : List ℕ) (n first from : ℕ)
    (cs : List Chosen) (done : List ℕ) : Type 0 where
  pub ordered : Ordered from (drop n ps)
  pub choices : ChosenSections n (length ps) first frames cs
  pub whole : new ≡ done ++ exchanged from (exchanges (octets_from first cs frames) (suc n) (drop n ps)) file

module _ {file : List ℕ} {ps : List Placed} {frames : List ℤ} {new : List ℕ} {n first from : ℕ} {done : List ℕ} where
  -- all chosen sections are passed
  pub made_all : Made file ps frames new n first from [] done → new ≡ done ++ drop from file
  unfolding chosen_frames new_octets exchanged
  made_all m =
      m.whole
      ∙ ap (λ (xs : List Exchange). done ++ exchanged from xs file)
      (exchanges-none (new_octets []) (drop n ps) (suc n) (λ m h. refl))

  -- the sections before the next chosen one are passed
  pub made-to : {x : Chosen} {cs : List Chosen} (j : ℕ) → Made file ps frames new n first from (x ∷ cs) done
      → n ≤ j → j < x.number → Made file ps frames new j first from (x ∷ cs) done
  made-to {x} {cs} j m h below =
      let f = octets_from first (x ∷ cs) frames in
      let e : n + (j - n) ≡ j = omega arith in
      let last : suc n + (j - n) ≡ suc j = omega arith in
      let ahead : drop (j - n) (drop n ps) ≡ drop j ps = drop-drop (j - n) n ps ∙ ap (λ (k : ℕ). drop k ps) e in
      record {
        ordered = subst (Ordered from) ahead (ordered-drop from (j - n) (drop n ps) m.ordered);
        choices = choices-on (length ps) frames n first x cs m.choices j below;
        whole = m.whole
            ∙ ap (λ (xs : List Exchange). done ++ exchanged from xs file)
            (exchanges-skip f (suc n) (j - n) (drop n ps)
            (λ i l. octets-below (length ps) frames n first x cs m.choices i (omega arith))
            ∙ ap (λ (k : ℕ). exchanges f k (drop (j - n) (drop n ps))) last
            ∙ ap (exchanges f (suc j)) ahead);
      }

  -- with the next chosen section, which is the next one
  module _ {x : Chosen} {cs : List Chosen} (p : Placed) (there : drop n ps ≡ p ∷ drop (suc n) ps)
      (k : Made file ps frames new n first from (x ∷ cs) done) (h : suc n ≡ x.number) where
    abbrev f : NewOctets
    f = octets_from first (x ∷ cs) frames

    abbrev g : NewOctets
    g = octets_from x.end cs frames

    abbrev rest : List Placed
    rest = drop (suc n) ps

    stands : Ordered from (p ∷ rest)
    stands = subst (Ordered from) there k.ordered

    pub made-low : from ≤ p.boundary
    unfolding Ordered
    made-low = stands.0

    abbrev octets : List ℕ
    octets = pack_byte_offset (slice first x.end frames)

    abbrev pub part : List ℕ
    part = slice from p.boundary file ++ house p.section.description octets

    abbrev to : ℕ
    to = p.boundary + p.section.width

    ahead-of-it : new ≡ (done ++ part) ++ exchanged to (exchanges g (suc x.number) rest) file
    unfolding exchanges exchanged
    ahead-of-it =
        let a = slice from p.boundary file in
        let b = house p.section.description octets in
        let t = exchanged to (exchanges g (suc x.number) rest) file in
        let here = octets-here (length ps) frames n first x cs k.choices in
        let after = octets-after (length ps) frames n first x cs k.choices in
        k.whole
        ∙ ap (λ (l : List Placed). done ++ exchanged from (exchanges f (suc n) l) file) there
        ∙ ap (λ (j : ℕ). done ++ exchanged from (exchanges f j (p ∷ rest)) file) h
        ∙ ap (λ (o : Option (List ℕ)). done ++ exchanged from (add_exchange p o (exchanges f (suc x.number) rest)) file) here
        ∙ ap (λ (xs : List Exchange). done ++ (a ++ (b ++ exchanged to xs file)))
        (exchanges-same f g (suc x.number) rest after)
        ∙ ap (λ (l : List ℕ). done ++ l) (sym (append_assoc a b t))
        ∙ sym (append_assoc done (a ++ b) t)

    -- the part up to its span's end is one of the new file's
    pub made-part : (tail : List ℕ) × (new ≡ (done ++ part) ++ tail)
    made-part = (exchanged to (exchanges g (suc x.number) rest) file, ahead-of-it)

    pub made-chosen : Made file ps frames new (suc n) x.end to cs (done ++ part)
    unfolding Ordered
    made-chosen =
        record {
          ordered = stands.1;
          choices = subst (λ (j : ℕ). ChosenSections j (length ps) x.end frames cs) (sym h)
              (choices-after (length ps) frames n first x cs k.choices);
          whole = ahead-of-it
              ∙ ap (λ (j : ℕ). (done ++ part) ++ exchanged to (exchanges g (suc j) rest) file) (sym h);
        }

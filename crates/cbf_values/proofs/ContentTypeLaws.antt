-- The parts of a Content-Type value: where joining its lines splits, a part's end, and the text around `=`. Assumes
-- nothing.
use Rattle.std.proofs.Common.{◌≡◌, refl, sym, ap, subst, ◌∙◌, Bool, true, false, cond, not, List, [], ◌∷◌, ◌++◌, append-nil, append_assoc}
use Rattle.std.proofs.Common.{ℕ, suc, ◌+◌, ◌-◌, ◌<◌, ◌≤◌, arith, eqb, length, take, drop, get_or, Option, None, Some}
use Rattle.std.proofs.lemmas.List.{take_more, take_rest, take_all, take-append-drop, drop_more, length-take, get_or-take}
use borrow.Author.Tests.{ne_eqb, eqb-true}
use Rattle.cbf_format.specs.Text.{before, after}
use Rattle.cbf_format.specs.Values.{parts, add_to_part, new_part, with_part, conversions, content_type}
use Rattle.cbf_format.specs.declared.Conversion.{Conversion}
use Rattle.cbf_format.specs.declared.Conversion.TheVariants.{Unseen, Seen, Wrong}
use Rattle.cbf_values.specs.Value.{Within, in_text, joined_from, joined, blank_or_end}
use Rattle.cbf_values.specs.ContentType.{part_then}
use Rattle.cbf_values.proofs.ValueLaws.{Adds, itself, a_space, nothing, step, split_from}

-- ---- where joining splits

-- one more byte at the end
record Grown (w : Within) (t : List ℕ) (x : ℕ) : Type 0 where
  more : List ℕ
  state : Within
  adds : Adds x more state
  grows : joined_from w (t ++ (x ∷ [])) ≡ joined_from w t ++ more

grown : (w : Within) (t : List ℕ) (x : ℕ) → Grown w t x
unfolding joined_from
grown w [] x = let s = step w x in record { more = s.bytes; state = s.after; adds = s.adds; grows = s.steps [] ∙ append-nil s.bytes }
grown w (y ∷ t) x =
    let s = step w y in
    let g = grown s.after t x in
    record {
      more = g.more;
      state = g.state;
      adds = g.adds;
      grows =
          s.steps (t ++ (x ∷ []))
          ∙ ap (λ (l : List ℕ). s.bytes ++ l) g.grows
          ∙ sym (append_assoc s.bytes (joined_from s.after t) g.more)
          ∙ ap (λ (l : List ℕ). l ++ g.more) (sym (s.steps t));
    }

-- ---- the first part

-- the bytes of p in front of the first part
abbrev in_front : List ℕ → Option (List (List ℕ)) → Option (List (List ℕ))
in_front [] r = r
in_front (x ∷ p) r = add_to_part x (in_front p r)

front-append : (p e : List ℕ) (r : Option (List (List ℕ))) → in_front (p ++ e) r ≡ in_front p (in_front e r)
front-append [] e r = refl
front-append (x ∷ p) e r = ap (add_to_part x) (front-append p e r)

front-none : (p : List ℕ) → in_front p None ≡ None
front-none [] = refl
front-none (x ∷ p) = ap (add_to_part x) (front-none p)

front-new : (p : List ℕ) (r : Option (List (List ℕ))) → in_front p (new_part r) ≡ part_then p r
front-new p None = front-none p
front-new [] (Some ps) = refl
front-new (x ∷ p) (Some ps) = ap (add_to_part x) (front-new p (Some ps))

-- a text without a part's end in it, and whether a quote is open after it
abbrev pub Begun : Bool → List ℕ → Type 0
Begun quoted p = (r : List ℕ) → parts false (p ++ r) ≡ in_front p (parts quoted r)

begun-byte : (q s : Bool) (p : List ℕ) (y : ℕ) → Begun q p → ((r : List ℕ) → parts q (y ∷ r) ≡ add_to_part y (parts s r)) → Begun s (p ++ (y ∷ []))
begun-byte q s p y h k r =
    ap (parts false) (append_assoc p (y ∷ []) r) ∙ h (y ∷ r) ∙ ap (in_front p) (k r) ∙ sym (front-append p (y ∷ []) (parts s r))

other_byte : (q : Bool) (y : ℕ) → eqb y 34 ≡ false → eqb y 59 ≡ false → (r : List ℕ) → parts q (y ∷ r) ≡ add_to_part y (parts q r)
other_byte q y e f r = rw (e, f)

begun-adds : (q : Bool) (p : List ℕ) (y : ℕ) (e : List ℕ) (w : Within) → Adds y e w → eqb y 34 ≡ false → eqb y 59 ≡ false
    → Begun q p → Begun q (p ++ e)
begun-adds q p y e w (itself o) a b h = begun-byte q q p y h (other_byte q y a b)
begun-adds q p y e w (a_space v o) a b h = begun-byte q q p 32 h (other_byte q 32 refl refl)
begun-adds q p y e w (nothing v o) a b h = subst (λ (l : List ℕ). Begun q l) (sym (append-nil p)) h

marked : (x y : ℕ) → blank_or_end y ≡ false → x ≡ y → blank_or_end x ≡ false
marked x y h e = ap blank_or_end e ∙ h

pub begun_start : Begun false (joined [])
unfolding joined joined_from
begun_start r = refl

parted : (text : List ℕ) (i : ℕ) → i < length text → blank_or_end (get_or text i 0) ≡ false
    → joined text ≡ joined (take i text) ++ (get_or text i 0 ∷ joined (drop (i + 1) text))
unfolding joined
parted text i fits o =
    ap joined (sym (take-append-drop i text) ∙ ap (λ (l : List ℕ). take i text ++ l) (drop_more text i 0 fits))
    ∙ split_from in_text (take i text) (get_or text i 0) (drop (i + 1) text) o

module _ (text : List ℕ) (i : ℕ) (q : Bool) (fits : i < length text) (begun : Begun q (joined (take i text))) where
  kept : blank_or_end (get_or text i 0) ≡ false → joined (take (i + 1) text) ≡ joined (take i text) ++ (get_or text i 0 ∷ [])
  unfolding joined joined_from
  kept o = ap joined (take_more text i 0 fits) ∙ split_from in_text (take i text) (get_or text i 0) [] o

  -- a quote opens or closes, and a `;` in quotes is no part's end
  pub begun_next : (s : Bool) → s ≡ cond (eqb (get_or text i 0) 34) (not q) q → (get_or text i 0 ≡ 59 → q ≡ true)
      → Begun s (joined (take (i + 1) text))
  unfolding joined
  begun_next s e inside = subst (λ (b : Bool). Begun b (joined (take (i + 1) text))) (sym e) (go (eqb (get_or text i 0) 34) refl (eqb (get_or text i 0) 59) refl)
    where
      x : ℕ
      x = get_or text i 0

      go : (a : Bool) → eqb x 34 ≡ a → (b : Bool) → eqb x 59 ≡ b → Begun (cond a (not q) q) (joined (take (i + 1) text))
      go true f b g =
          subst (λ (l : List ℕ). Begun (not q) l) (sym (kept (marked x 34 refl (eqb-true x 34 f))))
          (begun-byte q (not q) (joined (take i text)) x begun (λ r. rw (eqb-true x 34 f)))
      go false f true g =
          subst (λ (l : List ℕ). Begun q l) (sym (kept (marked x 59 refl (eqb-true x 59 g))))
          (begun-byte q q (joined (take i text)) x begun (λ r. rw (eqb-true x 59 g, inside (eqb-true x 59 g))))
      go false f false g =
          let m = grown in_text (take i text) x in
          subst (λ (l : List ℕ). Begun q l) (sym (ap joined (take_more text i 0 fits) ∙ m.grows))
          (begun-adds q (joined (take i text)) x m.more m.state m.adds f g begun)

  pub part_ends : q ≡ false → get_or text i 0 ≡ 59
      → parts false (joined text) ≡ part_then (joined (take i text)) (parts false (joined (take (length text - (i + 1)) (drop (i + 1) text))))
  part_ends t e =
      let r = joined (drop (i + 1) text) in
      let s : parts q (get_or text i 0 ∷ r) ≡ new_part (parts false r) = rw (e, t) in
      ap (parts false) (parted text i fits (marked (get_or text i 0) 59 refl e))
      ∙ begun (get_or text i 0 ∷ r)
      ∙ ap (in_front (joined (take i text))) s
      ∙ front-new (joined (take i text)) (parts false r)
      ∙ ap (λ (l : List ℕ). part_then (joined (take i text)) (parts false (joined l))) (sym (take_rest text (i + 1)))

-- all of the bytes are passed
module _ (text : List ℕ) (i : ℕ) (q : Bool) (over : length text ≤ i) (begun : Begun q (joined (take i text))) where
  ended : parts false (joined text) ≡ in_front (joined text) (parts q [])
  ended =
      let o : take i text ≡ text = take_all i text over in
      ap (parts false) (sym (append-nil (joined text))) ∙ subst (λ (l : List ℕ). Begun q (joined l)) o begun []

  pub part_open : q ≡ true → parts false (joined text) ≡ None
  part_open t = ended ∙ rw t (front-none (joined text))

  pub part_last : q ≡ false → parts false (joined text) ≡ part_then (joined text) (Some [])
  part_last t = ended ∙ rw t (front-new (joined text) (Some []))

-- ---- the text around `=`

-- no byte of a text is `=`
abbrev pub Free : List ℕ → Type 0
Free t = (k : ℕ) → k < length t → get_or t k 0 ≡ 61 → ⊥

-- the same, byte by byte
Lacking : List ℕ → Type 0
Lacking [] = Unit {0}
Lacking (x ∷ t) = (eqb 61 x ≡ false) × Lacking t

lacking : (w : Within) (t : List ℕ) → Free t → Lacking (joined_from w t)
unfolding joined_from Lacking
lacking w [] f = tt
lacking w (y ∷ t) f =
    let s = step w y in
    rw s.steps (go s.bytes s.after s.adds (joined_from s.after t) (lacking s.after t (λ k h. f (suc k) (omega arith))))
  where
    go : (e : List ℕ) (v : Within) → Adds y e v → (j : List ℕ) → Lacking j → Lacking (e ++ j)
    go e v (itself o) j h = (ne_eqb 61 y (λ e. f 0 (omega arith) (sym e)), h)
    go e v (a_space w o) j h = (refl, h)
    go e v (nothing w o) j h = h

before_over : (j l : List ℕ) → Lacking j → before 61 (j ++ l) ≡ j ++ before 61 l
unfolding Lacking
before_over [] l h = refl
before_over (x ∷ j) l h = rw h.0 (ap (λ (m : List ℕ). x ∷ m) (before_over j l h.1))

after_over : (j l : List ℕ) → Lacking j → after 61 (j ++ l) ≡ after 61 l
unfolding Lacking
after_over [] l h = refl
after_over (x ∷ j) l h = rw h.0 (after_over j l h.1)

module _ (text : List ℕ) (free : Free text) where
  pub before_none : joined text ≡ before 61 (joined text)
  unfolding joined
  before_none = sym (ap (before 61) (sym (append-nil (joined text))) ∙ before_over (joined text) [] (lacking in_text text free) ∙ append-nil (joined text))

  pub after_none : [] ≡ after 61 (joined text)
  unfolding joined
  after_none = sym (ap (after 61) (sym (append-nil (joined text))) ∙ after_over (joined text) [] (lacking in_text text free))

module _ (text : List ℕ) (i : ℕ) (fits : i < length text) (here : get_or text i 0 ≡ 61) (free : (k : ℕ) → k < i → get_or text k 0 ≡ 61 → ⊥) where
  at : joined text ≡ joined (take i text) ++ (61 ∷ joined (drop (i + 1) text))
  at = parted text i fits (marked (get_or text i 0) 61 refl here) ∙ rw here

  passed : Lacking (joined (take i text))
  unfolding joined
  passed = lacking in_text (take i text) λ k h e. let l : k < i = omega (arith, length-take i text) in free k l (sym (get_or-take i text k 0 l) ∙ e)

  pub before_at : joined (take i text) ≡ before 61 (joined text)
  unfolding joined
  before_at = sym (ap (before 61) at ∙ before_over (joined (take i text)) (61 ∷ joined (drop (i + 1) text)) passed ∙ append-nil (joined (take i text)))

  pub after_at : joined (take (length text - (i + 1)) (drop (i + 1) text)) ≡ after 61 (joined text)
  unfolding joined
  after_at = ap joined (take_rest text (i + 1)) ∙ sym (ap (after 61) at ∙ after_over (joined (take i text)) (61 ∷ joined (drop (i + 1) text)) passed)

-- ---- the parts one after another

-- what the parts say, after what is said already
abbrev pub said_by : Conversion → Option (List (List ℕ)) → Option ℕ
said_by c None = None
said_by c (Some ps) = conversions c ps

pub said_next : (c : Conversion) (p : List ℕ) (r : Option (List (List ℕ))) → said_by c (part_then p r) ≡ said_by (with_part c p) r
said_next c p None = refl
said_next Unseen p (Some ps) = refl
said_next Seen p (Some ps) = refl
said_next Wrong p (Some ps) = refl

-- the first part is free
pub first_free : (p : List ℕ) (r : Option (List (List ℕ))) → content_type (part_then p r) ≡ said_by Unseen r
first_free p None = refl
first_free p (Some ps) = refl

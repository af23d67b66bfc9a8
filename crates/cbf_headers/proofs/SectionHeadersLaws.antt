-- What a section's headers say, from the end of their lines and the values that were found. Assumes nothing.
use mathlib.Core.Path.{◌≡◌, refl, sym, ap, ◌∙◌}
use Rattle.std.specs.Prelude.{Option, None, Some, Result, Ok, Err, MatchResult}
use mathlib.Core.Bool.{Bool, true, false, not, cond}
use mathlib.Core.List.{List, [], ◌∷◌}
use Prim.Native.Nat.{ℕ, ◌+◌}
use native.Mathlib.Omega.{arith}
use lib.ListN.{drop}
use Rattle.cbf_walk.specs.Parsers.{Res, bad, cut, ok}
use Rattle.cbf_answers.specs.Answers.{number_of}
use Rattle.cbf_answers.specs.declared.Reason.{Reason}
use Rattle.cbf_answers.specs.declared.Refusal.{Refusal}
use Rattle.cbf_format.specs.Text.{blank}
use Rattle.cbf_format.specs.Headers.{some_name, split_colon, continues, malformed, HeaderLines, header_lines, group}
use Rattle.cbf_format.specs.declared.KnownHeader.{KnownHeader}
use Rattle.cbf_format.specs.declared.KnownHeader.TheVariants.{TransferEncoding, Size, Elements}
use Rattle.cbf_format.specs.declared.Description.{Description}
use Rattle.cbf_format.specs.declared.Stop.{Stop}
use Rattle.cbf_format.specs.declared.Stop.TheVariants.{Refused}
use Rattle.cbf_headers.specs.Headers.{headers_at}
use Rattle.cbf_headers.specs.Found.{found_of}
use Rattle.cbf_headers.specs.Describe.{described_by}
use Rattle.cbf_headers.specs.HeaderParts.{LinesHere, Fresh, HeadersHere}
use Rattle.cbf_headers.specs.Judge.{judged_at}
use Rattle.cbf_headers.specs.SectionHeaders.{headers_read_at}
use Rattle.cbf_headers.specs.declared.found.Found.{Found}
use Rattle.cbf_headers.specs.declared.headers.HeaderEnd.{HeaderEnd}
use Rattle.cbf_headers.specs.declared.section_headers.Headers.{Headers}
use Rattle.cbf_headers.proofs.HeadersLaws.{here-formed, Headed, headed, lines_end}
use Rattle.cbf_format.specs.Descriptions as D

-- ---- the first line continues no other

formed-fresh : (t : List ℕ) → malformed true t ≡ false → continues t ≡ false
formed-fresh [] e = refl
formed-fresh (x ∷ t) e = go (blank x) (not (some_name (split_colon (x ∷ t)))) e
  where
    go : (u v : Bool) → cond u true v ≡ false → u ≡ false
    go true v q = q
    go false v q = refl

first-fresh : (file : List ℕ) (at limit empty after : ℕ) (ls : List (ℕ × List ℕ))
    → LinesHere file at limit empty after true 0 ls → Fresh ls
first-fresh file at limit empty after [] h = tt
first-fresh file at limit empty after (l ∷ ls) h = formed-fresh l.1 (here-formed file at limit true 0 l h.0)

-- ---- what describe answers, with the places of the empty line and of what follows it

abbrev pub read_as : ℕ → ℕ → Result Description Reason → Result Headers Stop
read_as empty next (Err reason) = Err (Refused (record { number = number_of reason; place = empty }))
read_as empty next (Ok d) = Ok (record { description = d; next = next })

-- the refusal is the error with its place
pub read-refused : {refusal : Refusal} (empty next : ℕ) (r : Result Description Reason)
    → MatchResult r (λ d. ⊥) (λ reason. refusal ≡ record { number = number_of reason; place = empty })
    → Err (Refused refusal) ≡ read_as empty next r
read-refused empty next (Err reason) h = ap (λ (r : Refusal). Err (Refused r)) h
read-refused empty next (Ok d) h = absurd h

module _ (at e n : ℕ) where
  described-read :
      (a b c : Option ℕ) (fs : List (KnownHeader × ℕ))
      → read_as (at + e) (at + n) (described_by (D.described 0 a b c fs)) ≡ headers_read_at at
      (D.concluded_by (D.described e a b c fs) n)
  described-read None b c fs = refl
  described-read (Some i) None c fs = refl
  described-read (Some i) (Some j) None fs = refl
  described-read (Some i) (Some j) (Some k) fs = go (D.description i j k fs) (D.agrees (D.description i j k fs))
    where
      go :
          (d : Description) (b : Bool)
          → read_as (at + e) (at + n) (described_by (cond b (D.describes d) (D.headers_refused 7 0)))
          ≡ headers_read_at at (D.concluded_by (cond b (D.describes d) (D.headers_refused 7 e)) n)
      go d true = refl
      go d false = refl

  judged-refused : {refusal : Refusal} (r : Result Found ℕ)
      → MatchResult r (λ values. ⊥) (λ place. refusal ≡ record { number = 6; place = place })
      → (j : D.Judged) → r ≡ judged_at at j
      → Err (Refused refusal) ≡ headers_read_at at (D.concluded_by (D.verdict_of e j) n)
  judged-refused (Ok values) m j h = absurd m
  judged-refused (Err place) m (D.refused_at p) h =
      let q : place ≡ at + p = cc in
      ap (λ (r : Refusal). Err (Refused r)) m ∙ ap (λ (i : ℕ). Err (Refused (record { number = 6; place = i }))) q
  judged-refused (Err place) m (D.found fs) h = cc

  judged-found : {values : Found} (j : D.Judged) → Ok values ≡ judged_at at j → (d : Result Description Reason)
      → ((fs : List (KnownHeader × ℕ)) → values ≡ found_of fs → d ≡ described_by (D.verdict_of 0 (D.found fs)))
      → read_as (at + e) (at + n) d ≡ headers_read_at at (D.concluded_by (D.verdict_of e j) n)
  judged-found (D.refused_at p) h d k = cc
  judged-found (D.found fs) h d k =
      ap (read_as (at + e) (at + n)) (k fs cc)
      ∙ described-read (D.look TransferEncoding fs) (D.look Size fs) (D.look Elements fs) fs

-- ---- the headers that start at a place

module _ (file : List ℕ) (at limit most : ℕ) where
  pub headers-stopped : {s : Stop} → Err s ≡ headers_at at at (header_lines limit most true 0 (drop at file))
      → Err s ≡ headers_read_at at (D.headers limit most (drop at file))
  unfolding D.headers
  headers-stopped {s} e = go (header_lines limit most true 0 (drop at file)) e
    where
      go : (x : Res HeaderLines) → Err s ≡ headers_at at at x → Err s ≡ headers_read_at at (D.concluded x)
      go (bad k p) q = cc
      go cut q = cc
      go (ok hs n) q = cc

  module _ {end : HeaderEnd} (e : Ok end ≡ headers_at at at (header_lines limit most true 0 (drop at file))) where
    lines : Headed file at limit most end
    lines = headed file at limit most e

    pub headers-here : HeadersHere file at end.empty
    headers-here =
        let h = lines in
        let l = lines_end file at limit h.headers.empty h.taken true 0 h.headers.lines h.here in
        record {
          at = at;
          limit = limit;
          after = h.taken;
          first = true;
          m = 0;
          e = h.headers.empty;
          lines = h.headers.lines;
          is_from = omega arith;
          is_empty = h.start;
          here = h.here;
          fresh = first-fresh file at limit h.headers.empty h.taken h.headers.lines h.here;
          inside = omega (arith, h.start, l.0, l.1);
        }

    concluded-by :
        headers_read_at at (D.headers limit most (drop at file))
        ≡ headers_read_at at
        (D.concluded_by (D.verdict_of lines.headers.empty (D.judge (group lines.headers.lines).headers []))
        lines.taken)
    unfolding D.headers D.verdict
    concluded-by = ap (λ x. headers_read_at at (D.concluded x)) lines.reads

    pub section-refused : {refusal : Refusal} (r : Result Found ℕ)
        → MatchResult r (λ values. ⊥) (λ place. refusal ≡ record { number = 6; place = place })
        → ((g : HeadersHere file at end.empty) → r ≡ judged_at g.at (D.judge (group g.lines).headers []))
        → Err (Refused refusal) ≡ headers_read_at at (D.headers limit most (drop at file))
    unfolding headers-here
    section-refused r m all =
        judged-refused at lines.headers.empty lines.taken r m (D.judge (group lines.headers.lines).headers [])
        (all headers-here)
        ∙ sym concluded-by

    pub section-found : {values : Found}
        → ((g : HeadersHere file at end.empty) → Ok values ≡ judged_at g.at (D.judge (group g.lines).headers []))
        → (d : Result Description Reason)
        → ((fs : List (KnownHeader × ℕ)) → values ≡ found_of fs → d ≡ described_by (D.verdict_of 0 (D.found fs)))
        → read_as end.empty end.next d ≡ headers_read_at at (D.headers limit most (drop at file))
    unfolding headers-here
    section-found all d k =
        (λ i. read_as (lines.start i) (lines.ends i) d)
        ∙ (judged-found at lines.headers.empty lines.taken (D.judge (group lines.headers.lines).headers [])
        (all headers-here) d k ∙ sym concluded-by)

use Rattle.std.proofs.Common.{ℕ, ◌+◌, ◌-◌, ◌≡◌, true, false, not, get_or, refl, sym, ap, subst, ◌∙◌, arith}
use Rattle.std.proofs.Math.Seq.{slice}
use Rattle.cbf_format.specs.declared.Symbol.{Symbol}
use Rattle.cbf_format.specs.declared.Symbol.TheVariants.{Letter, Pad, Blank, Other}
use Rattle.cbf_format.specs.Base64.{symbol, is_other}
use Rattle.cbf_lines.proofs.TextLaws.{run-next, run-stop}
use Rattle.cbf_base64.specs.declared.base64.Groups.{Groups}
use Rattle.cbf_base64.specs.Base64.{add_symbol_to, bytes_from, symbolic, SymbolsTo}
use Rattle.cbf_base64.proofs.Base64Laws.{bytes_next, bytes-end, symbol-count, letters-count, letter_byte, run-symbolic, letters-run}
use Rattle.cbf_base64.proofs.base64.text_symbols.Goals.{then-from-run, else-from-run}
use Rattle.cbf_base64.proofs.base64.text_symbols.Goals as goal

-- a byte's symbol is none of the text, or one of it
not-other : (s : Symbol) → (s ≡ Other → ⊥) → is_other s ≡ false
not-other (Letter n) h = refl
not-other Pad h = refl
not-other Blank h = refl
not-other Other h = absurd (h refl)

byte-known : (x : ℕ) (s : Symbol) → s ≡ symbol x → is_other s ≡ false → symbolic x ≡ true
unfolding symbolic
byte-known x s e h = ap (λ (r : Symbol). not (is_other r)) (sym e) ∙ ap not h

byte-other : (x : ℕ) (s : Symbol) → s ≡ symbol x → s ≡ Other → symbolic x ≡ false
unfolding symbolic
byte-other x s e h = ap (λ (r : Symbol). not (is_other r)) (sym e ∙ h)

-- where the arms meet: the letters in front are added, or there are none
pub loop-i-init : goal.loop-i-init
loop-i-init c =
    let a = c.args in
    let file = a.file.now in
    let m = c.after_blocks-run.result in
    let high = c.after_blocks-run.ensures.high in
    let run = c.after_blocks-run.ensures.passed letter_byte (λ b r h e. e) in
    record {
      few = elim c.if-from-run.branch [
        | then-from-run w ↦
            let t = w.if-from-run.true in
            rw (w.groups-is ∙ w.with_letters-groups.ensures) (omega (
              arith,
              letters-count a.g (m - a.from) (symbol (get_or file (m - 1) 0)) (run.each (m - 1) (omega arith) (omega arith)),
            ))
        | else-from-run w ↦ rw w.groups-is (let low = run.low in omega arith)
      ];
      run = run-symbolic run;
      whole = λ j h k. elim c.if-from-run.branch [
        | then-from-run w ↦
            ap (λ (g : Groups). bytes_from g (slice m j file)) (w.groups-is ∙ w.with_letters-groups.ensures)
            ∙ letters-run run a.g j w.if-from-run.true h (omega arith)
        | else-from-run w ↦
            let l = w.if-from-run.false in
            let low = run.low in
            let e : m ≡ a.from = omega arith in
            ap (λ (g : Groups). bytes_from g (slice m j file)) w.groups-is
            ∙ ap (λ (i : ℕ). bytes_from a.g (slice i j file)) e
      ];
    }

pub returns-in-Other : goal.returns-in-Other
returns-in-Other c =
    let l = c.loop-i in
    record {
      run = run-stop l.invariant.run (omega arith) (λ h. byte-other _ c.symbol.result c.symbol.ensures c.in-Other.is);
      added = sym (bytes-end l.groups c.args.file.now l.i) ∙ l.invariant.whole l.i (omega arith) (omega arith);
      most = l.invariant.few;
    }

pub loop-i-preserved : goal.loop-i-preserved
loop-i-preserved c =
    let l = c.loop-i in
    let file = c.args.file.now in
    let s = symbol (get_or file l.i 0) in
    let e : c.with-groups.result ≡ add_symbol_to l.groups s =
    c.with-groups.ensures ∙ ap (add_symbol_to l.groups) c.symbol.ensures in
    record {
      few = rw e (omega (arith, l.invariant.few, symbol-count l.groups s));
      run = run-next l.invariant.run (byte-known _ c.symbol.result c.symbol.ensures
          (not-other c.symbol.result c.in_default.not-Other));
      whole = λ j h k. ap (λ (g : Groups). bytes_from g (slice (l.i + 1) j file)) e
          ∙ sym (bytes_next l.groups file l.i j (omega arith) (omega arith)) ∙ l.invariant.whole j (omega arith) k;
    }

pub returns : goal.returns
returns c =
    let l = c.loop-i in
    let a = c.args in
    let low = l.invariant.run.low in
    let e : l.i ≡ a.to = omega arith in
    subst (λ (n : ℕ). SymbolsTo a.file.now a.from a.to a.g (record { groups = l.groups; to = n })) e
    (record {
      run = run-stop l.invariant.run (omega arith) (λ h. absurd (omega arith));
      added = sym (bytes-end l.groups a.file.now l.i) ∙ l.invariant.whole l.i (omega arith) (omega arith);
      most = l.invariant.few;
    })

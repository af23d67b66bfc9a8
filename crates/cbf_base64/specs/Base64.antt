-- BASE64 text as the code checks it. Document 01: "groups of four, `=` only as one or two at the very end, unused
-- bits zero", "octet count as declared".
use Rattle.std.specs.Prelude.{◌≡◌, Bool, true, false, not, ◌&&◌, cond, List, [], ◌∷◌, ℕ, ◌+◌, ◌*◌, ◌/◌, ◌%◌, ◌≤◌, eqb}
use Rattle.cbf_format.specs.declared.Symbol.{Symbol}
use Rattle.cbf_format.specs.declared.Symbol.TheVariants.{Letter, Pad, Blank, Other}
use Rattle.std.proofs.Math.Seq.{slice}
use Rattle.cbf_format.specs.Base64.{symbol, is_other}
use Rattle.cbf_base64.specs.declared.base64.Groups.{Groups}
use Rattle.cbf_base64.specs.declared.base64.Symbols.{Symbols}
use Rattle.cbf_lines.specs.Text.{Run}

-- one symbol more
abbrev pub add_symbol_to : Groups → Symbol → Groups
add_symbol_to g (Letter n) = record { letters = g.letters + 1; pads = g.pads; last = n; broken = cond (eqb g.pads 0) g.broken true }
add_symbol_to g Pad = record { letters = g.letters; pads = g.pads + 1; last = g.last; broken = g.broken }
add_symbol_to g Blank = g
add_symbol_to g Other = g

-- n letters more, of which this is the last
abbrev pub add_letters_to : Groups → ℕ → Symbol → Groups
add_letters_to g n s = let h = add_symbol_to g s in record { letters = g.letters + n; pads = h.pads; last = h.last; broken = h.broken }

unfoldable pub groups_from : Groups → List Symbol → Groups
groups_from g [] = g
groups_from g (s ∷ l) = groups_from (add_symbol_to g s) l

unfoldable pub groups_of : List Symbol → Groups
groups_of l = groups_from (record { letters = 0; pads = 0; last = 0; broken = false }) l

-- the symbols of a text's bytes
unfoldable pub bytes_from : Groups → List ℕ → Groups
bytes_from g [] = g
bytes_from g (x ∷ t) = bytes_from (add_symbol_to g (symbol x)) t

-- the bits of the last letter that no octet takes
unfoldable pub unused_zero : ℕ → ℕ → Bool
unused_zero pads last = cond (eqb pads 0) true (cond (eqb pads 1) (eqb (last % 4) 0) (cond (eqb pads 2) (eqb (last % 16) 0) false))

-- the text so far is whole, and stands for this many octets
unfoldable pub groups_hold : Groups → ℕ → Bool
groups_hold g size =
    not g.broken && (eqb ((g.letters + g.pads) % 4) 0 && (eqb (g.letters * 3 / 4) size && unused_zero g.pads g.last))

-- a byte of BASE64 text
unfoldable pub symbolic : ℕ → Bool
symbolic x = not (is_other (symbol x))

-- the symbols of a text were added to g, up to its end or its first byte that is none
pub record SymbolsTo (file : List ℕ) (from to : ℕ) (g : Groups) (r : Symbols) : Type 0 where
  pub run : Run symbolic file from to r.to
  pub added : r.groups ≡ bytes_from g (slice from r.to file)
  pub most : r.groups.letters + r.groups.pads ≤ r.to

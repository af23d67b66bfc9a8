-- A window over the octets of a text.
use Rattle.std.specs.Prelude.{List, ◌++◌, ℕ, ◌+◌, ◌<◌, ◌≤◌, ◌≡◌, ◌⊎◌, length, take, replicate}
use Rattle.std.proofs.Math.Seq.{slice}
use Rattle.cbf_text.specs.declared.text_window.Window.{Window}
use Rattle.cbf_letters.specs.Octets.{text_octets}

-- ---- A window: octets that were decoded and not used yet, and behind them `left` octets of the text

-- the octets that are to come
abbrev pub content : List ℕ → ℕ → Window → List ℕ
content file to w = slice w.next w.have w.octets ++ take w.left (text_octets file w.at to)

pub record Holds (file : List ℕ) (to : ℕ) (w : Window) : Type 0 where
  pub low : w.next ≤ w.have
  pub high : w.have ≤ length w.octets
  pub begun : w.at ≤ to
  pub enough : w.left ≤ length (text_octets file w.at to)
  pub wide : length w.octets ≡ 1536

-- a window that has nothing yet of the size octets that the text has from at on
abbrev pub fresh : ℕ → ℕ → Window
fresh at size = record { octets = replicate 1536 0; at = at; left = size; next = 0; have = 0 }

-- the window w was filled again: r brings the same octets, and is full or has all
pub record Refilled (file : List ℕ) (to : ℕ) (w r : Window) : Type 0 where
  pub front : r.next ≡ 0
  pub holds : Holds file to r
  pub same : content file to r ≡ content file to w
  pub full : (r.left ≡ 0) ⊎ (1536 < r.have + 3)
  pub onward : w.at ≤ r.at

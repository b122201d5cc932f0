-- Groups of one width, cut into words.
use Rattle.std.specs.Prelude.{◌≡◌, ℕ, ◌*◌, ◌≤◌}
use Rattle.content.specs.Kinds.{Lettering}

-- a lettering of this width and padding, whose groups fill its words
pub record Cut (l : Lettering) (width padding : ℕ) : Type 0 where
  pub wide : l.width ≡ width
  pub padded : l.padding ≡ padding
  pub narrow : width ≤ 32
  pub whole : l.room * width ≡ l.count * 24
  pub few : l.room * width ≤ 168
  pub small : l.room ≤ 24

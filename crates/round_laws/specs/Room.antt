-- Every frame of a lawful card has room in its bits.
use Rattle.std.specs.Prelude.{◌≡◌, ℕ, ◌<◌, length}
use Rattle.std.specs.List.{AllByRecursion}
use Rattle.card.specs.Card.{CardValue, Lawful}
use Rattle.frame.specs.Frame.{frame_of}
use Rattle.frame.specs.Judging.{Sendable}

abbrev pub FramesHaveRoom : Type 0
FramesHaveRoom =
    (c : CardValue) → Lawful c → length c.identifier ≡ 8 → AllByRecursion (λ o. o < 256) c.identifier → (k : ℕ) → Sendable (frame_of c k)

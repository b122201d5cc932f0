use Rattle.std.proofs.Common.{◌≡◌, ℕ, ◌-◌, length, take, replicate, ap, ◌∙◌, arith, rules}
use Rattle.std.proofs.lemmas.List.{take_at, take-replicate}
use Rattle.line.specs.Calls.{encode_output}
use Rattle.sender.proofs.sender.Sender.line_bits.Goals as goal

pub returns : goal.returns
returns g c =
    let m = g.L.Line.model c.args.self.now.line in
    let s = c.args.self.now in
    let size = s.size in
    let long : length c.encode_into.new.out ≡ size = search rules in
    let none : size - 0 ≡ size = omega arith in
    let blank : take (size - 0) (replicate 4096 0) ≡ replicate size 0 =
    ap (λ (n : ℕ). take n (replicate 4096 0)) none ∙ take-replicate size 4096 0 (omega arith)
    in
    take_at c.encode_into.new.out _ size long
    ∙ c.encode_into.ensures
    ∙ ap (encode_output m c.args.word.now s.last) blank

use Rattle.std.proofs.Common.{arith}
use Rattle.bch.proofs.Answered.{not_here, found_near, found_none}
use Rattle.bch.proofs.decoder.Damaged.search.Goals as goal

pub loop-v-init : goal.loop-v-init
loop-v-init c = λ w n. not_here c.args.self.now.word.bits w c.args.self.now.damaged n

pub returns-in-Some : goal.returns-in-Some
returns-in-Some c =
    let a = c.in-Some.ensures in
    found_near c.args.self.now.word.bits c.in-Some.corrected (omega arith) c.args.self.now.word.are_bits a.0 a.1

pub returns : goal.returns
returns c =
    found_none c.args.self.now.word.bits (omega arith) c.args.self.now.word.are_bits
    (λ w n. omega (arith, c.loop-v.invariant w n, n.near))

use Rattle.std.proofs.Common.{◌≡◌, length, sym, refl, ◌∙◌, subst, arith, MatchOption, Option, Some, None}
use Rattle.bch.specs.Nearest.{Near}
use Rattle.bch.proofs.Systems.{Posed, flips_to, no_solution}
use Rattle.bch.proofs.decoder.Damaged.attempt.Goals as goal

-- another fact where nothing is answered
other_none : {X : Type 0} (o : Option X) (P P' : Type 0) (Q : X → Type 0) → (P → P') → MatchOption o P Q → MatchOption o P' Q
other_none None P P' Q f h = f h
other_none (Some x) P P' Q f h = h

pub returns-in_err-coefficients : goal.returns-in_err-coefficients
returns-in_err-coefficients c =
    let d = c.args.self.now in
    let P : Posed d.word.bits d.syndromes c.args.v c.key_equations.result =
    record {
      long = omega arith;
      bit = d.word.are_bits;
      few = c.requires;
      syndromes = d.theirs;
      six = omega arith;
      equations = c.key_equations.ensures.is;
      rest = c.key_equations.ensures.rest;
    }
    in
    rw c.from_residual.ensures
    (λ w n e. no_solution d.word.bits d.syndromes c.args.v c.key_equations.result P (c.in_err-coefficients.ensures.none refl) w n e)

pub returns : goal.returns
returns c =
    let d = c.args.self.now in
    let r = d.word.bits in
    let ls = c.in_ok-coefficients.coefficients in
    let P : Posed r d.syndromes c.args.v c.key_equations.result =
    record {
      long = omega arith;
      bit = d.word.are_bits;
      few = c.requires;
      syndromes = d.theirs;
      six = omega arith;
      equations = c.key_equations.ensures.is;
      rest = c.key_equations.ensures.rest;
    }
    in
    let long : length ls ≡ 6 = omega arith in
    other_none c.accepted.result _ _ _
    (λ far w n e.
    let s : c.flipped.result.bits ≡ w =
    c.flipped.ensures ∙ flips_to r d.syndromes c.args.v c.key_equations.result P ls long (c.in_ok-coefficients.ensures.some ls refl) w n e
    in
    far (subst (Near r) (sym s) n))
    c.accepted.ensures

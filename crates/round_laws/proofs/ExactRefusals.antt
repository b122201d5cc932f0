-- What the reader keeps after any takes; and that a frame breaks one rule at most.
use Rattle.std.proofs.Common.{◌≡◌, ℕ, eqb, List, [], ◌∷◌, ◌++◌, Ok, Err, Result, sym, refl, subst}
use Rattle.content.specs.declared.entry.Content.{Content}
use Rattle.frame.specs.declared.carried.Frame.{Frame}
use Rattle.frame.specs.declared.refusal.FrameRefusal.{FrameRefusal}
use Rattle.round.specs.Refusals.{of_frame}
use Rattle.round.specs.Rounds.{Reading, Outcome, fresh, round_card, told, refusing, accepting, on_frame, on_take, reading_after, answers_to}
use Rattle.round.specs.declared.refusal.TakeRefusal.{TakeRefusal}
use Rattle.round_laws.specs.Closings.{carried}
use Rattle.round_laws.specs.Exactly.{accepted_since, open_round, so_far, last_unique, with_first, Refused}
use Rattle.round_laws.specs.HalfRules.{Breaks}
use Rattle.round_laws.specs.HalfRules.Breaks.{breaks_off, out_of_order, valueless}
use Rattle.round_laws.specs.Exactly.Refused.{repeats as repeating, foreign, in_first, in_second}
use Rattle.round_laws.proofs.Takes.{Tracked, Met, met}
use Rattle.round_laws.proofs.Takes.Met.{accepts, refuses}

-- after a refused take nothing is kept
pub forgotten : (r : Reading) (e : TakeRefusal) → Tracked [] (refusing r e).after
unfolding refusing last_unique open_round carried
forgotten r e = record { unique = refl; identifier = []; identified = tt; follows = refl }

pub tracked : (ts : List (Result Frame FrameRefusal)) (before : List Frame) (r : Reading) → Tracked before r
    → Tracked (accepted_since before ts (answers_to r ts)) (reading_after r ts)
unfolding accepted_since answers_to reading_after on_take accepting refusing
tracked [] before r k = k
tracked (Err e ∷ ts) before r k = by (tracked ts [])
  where
    by : ((r : Reading) → Tracked [] r → Tracked (accepted_since [] ts (answers_to r ts)) (reading_after r ts))
        → Tracked (accepted_since before (Err e ∷ ts) (answers_to r (Err e ∷ ts))) (reading_after r (Err e ∷ ts))
    by more = more (refusing r (of_frame e)).after (forgotten r (of_frame e))
tracked (Ok f ∷ ts) before r k = by (met before r k f) (tracked ts)
  where
    Next : Outcome → Type 0
    Next o = Tracked (accepted_since before (Ok f ∷ ts) (o.answer ∷ answers_to o.after ts)) (reading_after o.after ts)

    by : Met before r f → ((before : List Frame) (r : Reading) → Tracked before r
        → Tracked (accepted_since before ts (answers_to r ts)) (reading_after r ts)) → Next (on_frame r f)
    by (accepts s e k' fits none) more =
        let a = told (round_card r.state) (eqb f.first.id 0) in
        subst Next (sym e) (more (before ++ (f ∷ [])) (accepting r f.unique s a).after k')
    by (refuses e h p) more = subst Next (sym h) (more [] (refusing r e).after (forgotten r e))

-- a half breaks one rule at most
one_breach : (half : ℕ) (xs : List Content) (x : Content) (e g : TakeRefusal) → Breaks half xs x e → Breaks half xs x g → e ≡ g
one_breach half xs x e g (breaks_off p) (breaks_off q) = refl
one_breach half xs x e g (breaks_off p) (out_of_order q) = absurd (q.other p.zero)
one_breach half xs x e g (breaks_off p) (valueless q s t) = absurd (q p)
one_breach half xs x e g (out_of_order p) (breaks_off q) = absurd (p.other q.zero)
one_breach half xs x e g (out_of_order p) (out_of_order q) = refl
one_breach half xs x e g (out_of_order p) (valueless q s t) = absurd (s p)
one_breach half xs x e g (valueless p s t) (breaks_off q) = absurd (p q)
one_breach half xs x e g (valueless p s t) (out_of_order q) = absurd (s q)
one_breach half xs x e g (valueless p s t) (valueless q u v) = refl

-- and so does a frame
pub one_refusal : (before : List Frame) (f : Frame) (e g : TakeRefusal) → Refused before f e → Refused before f g → e ≡ g
one_refusal before f e g (repeating p) (repeating q) = refl
one_refusal before f e g (repeating p) (foreign q s) = absurd (q p)
one_refusal before f e g (repeating p) (in_first i b) = absurd (i.fits.alternates p)
one_refusal before f e g (repeating p) (in_second i n b) = absurd (i.fits.alternates p)
one_refusal before f e g (foreign p s) (repeating q) = absurd (p q)
one_refusal before f e g (foreign p s) (foreign q t) = refl
one_refusal before f e g (foreign p s) (in_first i b) = absurd (s i.fits.belongs)
one_refusal before f e g (foreign p s) (in_second i n b) = absurd (s i.fits.belongs)
one_refusal before f e g (in_first i b) (repeating q) = absurd (i.fits.alternates q)
one_refusal before f e g (in_first i b) (foreign q t) = absurd (t i.fits.belongs)
one_refusal before f e g (in_first i b) (in_first j d) = one_breach 1 (so_far before) f.first e g b d
one_refusal before f e g (in_first i b) (in_second j n d) = absurd (n e b)
one_refusal before f e g (in_second i m b) (repeating q) = absurd (i.fits.alternates q)
one_refusal before f e g (in_second i m b) (foreign q t) = absurd (t i.fits.belongs)
one_refusal before f e g (in_second i m b) (in_first j d) = absurd (m g d)
one_refusal before f e g (in_second i m b) (in_second j n d) = one_breach 2 (with_first (so_far before) f.first) f.second e g b d

-- before the first take
pub nothing_yet : Tracked [] fresh
unfolding last_unique open_round carried
nothing_yet = record { unique = refl; identifier = []; identified = tt; follows = refl }

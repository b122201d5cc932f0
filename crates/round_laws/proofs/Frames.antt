-- Frames in a row: those before the first frame 0 are passed over, that one opens a round, and each frame 0 after it closes the card.
use Rattle.std.proofs.Common.{◌≡◌, ℕ, zero, suc, ◌+◌, ◌-◌, ◌*◌, ◌%◌, ◌<◌, ◌≤◌, true, false, cond, eqb, ◌⊎◌, List, [], ◌∷◌, ◌++◌, map, length, get_or, drop, replicate, Some, None, Ok, Option, sym, refl, ap, ◌∙◌, subst, inl, inr, add-zero, add-suc, mod-lt, mod-eq_of_lt, suc-add, zero-add, add-one, arith}
use native.Mathlib.Nat.{mod_self, suc-mod, zero-mod, add-mod_right}
use Rattle.std.proofs.lemmas.List.{drop_more, drop_all}
use Rattle.std.proofs.lemmas.Bool.{eq-eqb, ne_eqb, cases_eq, cases_lt}
use Rattle.card.specs.Fields.{keeps_first_octet}
use Rattle.card.specs.Card.{CardValue, Lawful, blank}
use Rattle.content.specs.Sequence.{marker, field_sets, sequence, round_length}
use Rattle.content.specs.Laws.{SequenceLaws}
use Rattle.content.specs.declared.entry.Content.{Content}
use Rattle.content.proofs.ReadBack.{sequence_laws}
use Rattle.frame.specs.Frame.{frame_of}
use Rattle.frame.specs.declared.carried.Frame.{Frame}
use Rattle.round.specs.Rounds.{State, Answer, Reading, Outcome, fresh, advanced, opening, halves, round_card, told, accepting, repeats, agrees, on_frame, on_take, answers_to}
use Rattle.round.specs.Rounds.State.{waiting, opened}
use Rattle.round.specs.Rounds.Answer.{passed_over, taken, closed}
use Rattle.round_laws.specs.TwoRounds.{frames_from, refusals, closed_by, closed_cards, TwoRounds}
use Rattle.round_laws.proofs.Walks.{Walk, walk_sets}
use Rattle.round_laws.proofs.Halves.{Goes, ended_by, Whole, goes_from, sequence_is, accepted, agreeing, two_halves, opening_halves}

-- how many of n frames from the number k on begin a round of r frames
abbrev zeros : ℕ → ℕ → ℕ → ℕ
zeros r k zero = 0
zeros r k (suc n) = cond (eqb (k % r) 0) 1 0 + zeros r (suc k) n

zeros_plus : (r k n m : ℕ) → zeros r k (n + m) ≡ zeros r k n + zeros r (k + n) m
zeros_plus r k zero m = rw (zero-add m, add-zero k) (omega arith)
zeros_plus r k (suc n) m = rw (suc-add n m, add-suc k n) (omega (arith, simp suc-add at (zeros_plus r (suc k) n m)))

zeros_none : (r k n : ℕ) → 0 < k → k + n ≤ r → zeros r k n ≡ 0
zeros_none r k zero a b = refl
zeros_none r k (suc n) a b =
    let h : k < r = omega arith in
    let e : eqb (k % r) 0 ≡ false = ne_eqb (k % r) 0 (λ q. omega (arith, mod-eq_of_lt h)) in
    rw e (omega (arith, zeros_none r (suc k) n (omega arith) (omega arith)))

-- among as many frames as a round has there is one
zeros_round : (r k : ℕ) → 0 < r → zeros r k r ≡ 1
zeros_round zero zero h = absurd (omega arith)
zeros_round (suc r) zero h = rw (zero-mod (suc r)) (omega (arith, zeros_none (suc r) 1 r (omega arith) (omega arith)))
zeros_round r (suc k) h =
    let before : zeros r k r ≡ 1 = zeros_round r k h in
    let one : zeros r k (r + 1) ≡ zeros r k r + zeros r (k + r) 1 = zeros_plus r k r 1 in
    let two : zeros r k (suc r) ≡ cond (eqb (k % r) 0) 1 0 + zeros r (suc k) r = refl in
    let end : zeros r (k + r) 1 ≡ cond (eqb (k % r) 0) 1 0 + 0 = ap (λ (x : ℕ). cond (eqb x 0) 1 0 + 0) (add-mod_right k r) in
    let e : zeros r k (r + 1) ≡ zeros r k (suc r) = ap (zeros r k) (add-one r) in
    omega arith

zeros_two : (r k : ℕ) → 0 < r → zeros r k (2 * r) ≡ 2
zeros_two r k h =
    let e : 2 * r ≡ r + r = omega arith in
    rw (e, zeros_plus r k r r) (omega (arith, zeros_round r k h, zeros_round r (k + r) h))

-- a sequence, its first entry ID 0, whose other halves go from an open round to its end
record Going (c : CardValue) : Type 0 where
  pub lawful : keeps_first_octet c.identifier ≡ true
  pub second : Content
  pub others : List Content
  pub is : sequence c ≡ marker ∷ second ∷ others
  pub start : State
  pub end : State
  pub opens : advanced 2 (opened (blank c.identifier) 0) second ≡ Ok start
  pub goes : Goes c.identifier true others start end
  pub whole : Whole c end
  pub frames : length (marker ∷ second ∷ others) ≡ 2 * round_length c

module _ (c : CardValue) (g : Going c) where
  abbrev all : List Content
  all = marker ∷ g.second ∷ g.others

  abbrev r₀ : ℕ
  r₀ = round_length c

  abbrev frame_at : ℕ → ℕ → Frame
  frame_at k i = record { unique = k % 2; identifier = c.identifier; first = get_or all (2 * i) marker; second = get_or all (2 * i + 1) marker }

  frame_is : (k i : ℕ) → k % r₀ ≡ i → frame_of c k ≡ frame_at k i
  frame_is k i e = ap (λ (q : List Content). framed q (k % r₀)) g.is ∙ ap (framed all) e
    where
      framed : List Content → ℕ → Frame
      framed q j = record { unique = k % 2; identifier = c.identifier; first = get_or q (2 * j) marker; second = get_or q (2 * j + 1) marker }

  some : 0 < r₀
  some = omega (arith, g.frames)

  split : (i : ℕ) → i < r₀ → drop (2 * i) all ≡ get_or all (2 * i) marker ∷ get_or all (2 * i + 1) marker ∷ drop (2 * suc i) all
  split i h =
      let e : 2 * i + 1 + 1 ≡ 2 * suc i = omega arith in
      drop_more all (2 * i) marker (omega (arith, g.frames))
      ∙ ap (λ (l : List Content). get_or all (2 * i) marker ∷ l)
      (drop_more all (2 * i + 1) marker (omega (arith, g.frames)) ∙ ap (λ (n : ℕ). get_or all (2 * i + 1) marker ∷ drop n all) e)

  -- the last accepted take does not have the unique word of frame number k
  abbrev Alternates : Reading → ℕ → Type 0
  Alternates r k = repeats r.unique (k % 2) ≡ false

  -- a take within the round
  on_walk : (r : Reading) (k i : ℕ) → Alternates r k → i < r₀ → Goes c.identifier true (drop (2 * i) all) r.state g.end
      → (s : State) × (on_frame r (frame_at k i) ≡ accepting r (k % 2) s taken) × Goes c.identifier true (drop (2 * suc i) all) s g.end
  unfolding told
  on_walk r k i ok h w =
      let v : Goes c.identifier true (get_or all (2 * i) marker ∷ get_or all (2 * i + 1) marker ∷ drop (2 * suc i) all) r.state
      g.end = subst (λ (l : List Content). Goes c.identifier true l r.state g.end) (split i h) w in
      let s = v.2.2.0 in
      let f = frame_at k i in
      let e : halves r.state f ≡ Ok s = two_halves r.state v.2.0 s f v.1 v.2.1 v.2.2.1 in
      let t : told (round_card r.state) (eqb f.first.id 0) ≡ taken =
      ap (λ (o : Option CardValue). told o (eqb f.first.id 0)) v.0.1
      ∙ ap (told (Some v.0.0)) (ne_eqb f.first.id 0 v.1) in
      (s, accepted r f s ok (agreeing c.identifier r.state g.lawful v.0) e ∙ ap (accepting r (k % 2) s) t, v.2.2.2)

  -- a frame 0 that closes a round
  on_close : (r : Reading) (k : ℕ) → Alternates r k → r.state ≡ g.end
      → on_frame r (frame_at k 0) ≡ accepting r (k % 2) g.start (closed c)
  unfolding told
  on_close r k ok e =
      let f = frame_at k 0 in
      let o : round_card r.state ≡ Some c = ap round_card e ∙ g.whole.round in
      let h : halves r.state f ≡ Ok g.start = opening_halves r.state g.start f refl
      (ap (λ (s : State). opening c.identifier s marker) e ∙ g.whole.opens c.identifier marker) g.opens in
      accepted r f g.start ok (agreeing c.identifier r.state g.lawful (c, o, refl)) h
      ∙ ap (λ (x : Option CardValue). accepting r (k % 2) g.start (told x true)) o

  -- a frame 0 that opens the first
  on_open : (r : Reading) (k : ℕ) → Alternates r k → r.state ≡ waiting → on_frame r (frame_at k 0) ≡ accepting r (k % 2) g.start taken
  unfolding told round_card agrees opening
  on_open r k ok e =
      let f = frame_at k 0 in
      let o : round_card r.state ≡ None = ap round_card e in
      let h : halves r.state f ≡ Ok g.start = opening_halves r.state g.start f refl
      (ap (λ (s : State). opening c.identifier s marker) e) g.opens in
      accepted r f g.start ok (ap (λ (x : Option CardValue). agrees x c.identifier) o ∙ g.lawful) h
      ∙ ap (λ (x : Option CardValue). accepting r (k % 2) g.start (told x true)) o

  -- the first ID of every other frame
  nonzero : (i : ℕ) (xs : List Content) (s u : State) → Goes c.identifier true xs s u → 2 * i < length xs
      → (get_or xs (2 * i) marker).id ≡ 0 → ⊥
  nonzero i [] s u w h = absurd (omega arith)
  nonzero i (x ∷ []) s u w h = absurd w.2.2
  nonzero zero (x ∷ y ∷ xs) s u w h = w.1
  nonzero (suc i) (x ∷ y ∷ xs) s u w h =
      let e : 2 * suc i ≡ suc (suc (2 * i)) = omega arith in
      rw e (nonzero i xs w.2.2.0 u w.2.2.2 (omega arith))

  on_pass : (r : Reading) (k i : ℕ) → Alternates r k → 0 < i → i < r₀ → r.state ≡ waiting
      → on_frame r (frame_at k i) ≡ accepting r (k % 2) waiting passed_over
  unfolding told round_card agrees advanced
  on_pass r k zero ok p h e = absurd (omega arith)
  on_pass r k (suc i) ok p h e =
      let f = frame_at k (suc i) in
      let o : round_card r.state ≡ None = ap round_card e in
      let d : 2 * suc i ≡ suc (suc (2 * i)) = omega arith in
      let n : (get_or all (2 * suc i) marker).id ≡ 0 → ⊥ =
      rw d (nonzero i g.others g.start g.end g.goes (omega (arith, g.frames))) in
      let q : halves r.state f ≡ Ok waiting = two_halves r.state waiting waiting f n
      (ap (λ (s : State). advanced 1 s f.first) e) refl in
      accepted r f waiting ok (ap (λ (x : Option CardValue). agrees x c.identifier) o ∙ g.lawful) q
      ∙ ap (accepting r (k % 2) waiting) (ap (λ (x : Option CardValue). told x (eqb f.first.id 0)) o
      ∙ ap (told None) (ne_eqb f.first.id 0 n))

  -- the answers to n frames from the number k on refuse nothing, and close these cards
  abbrev Closes : Reading → ℕ → ℕ → List CardValue → Type 0
  Closes r k n cs = (refusals (answers_to r (map Ok (frames_from c k n))) ≡ []) × (closed_cards (answers_to r (map Ok (frames_from c k n))) ≡ cs)

  one_on : (r : Reading) (k n i : ℕ) (s : State) (a : Answer) (cs : List CardValue) → k % r₀ ≡ i
      → on_frame r (frame_at k i) ≡ accepting r (k % 2) s a
      → Closes (accepting r (k % 2) s a).after (suc k) n cs → Closes r k (suc n) (closed_by a ++ cs)
  unfolding answers_to on_take frames_from refusals closed_cards accepting
  one_on r k n i s a cs e t w =
      let is : on_frame r (frame_of c k) ≡ accepting r (k % 2) s a = ap (on_frame r) (frame_is k i e) ∙ t in (
        ap (λ (p : Outcome). refusals (p.answer ∷ answers_to p.after (map Ok (frames_from c (suc k) n)))) is ∙ w.0,
        ap (λ (p : Outcome). closed_cards (p.answer ∷ answers_to p.after (map Ok (frames_from c (suc k) n)))) is
            ∙ ap (λ (l : List CardValue). closed_by a ++ l) w.1,
      )

  alternate : (r : Reading) (k : ℕ) (s : State) (a : Answer) → Alternates (accepting r (k % 2) s a).after (suc k)
  unfolding repeats accepting
  alternate r k s a = ne_eqb (k % 2) (suc k % 2) (λ e. omega arith)

  onward : (k i : ℕ) → i % r₀ ≡ k % r₀ → suc i % r₀ ≡ suc k % r₀
  onward k i e = suc-mod i r₀ ∙ ap (λ (x : ℕ). suc x % r₀) e ∙ sym (suc-mod k r₀)

  once : (k n : ℕ) → k % r₀ ≡ 0 → zeros r₀ k (suc n) ≡ suc (zeros r₀ (suc k) n)
  once k n e = let t : eqb (k % r₀) 0 ≡ true = eq-eqb (k % r₀) 0 e in rw t (omega arith)

  not_yet : (k n : ℕ) → (k % r₀ ≡ 0 → ⊥) → zeros r₀ k (suc n) ≡ zeros r₀ (suc k) n
  not_yet k n e = let t : eqb (k % r₀) 0 ≡ false = ne_eqb (k % r₀) 0 e in rw t (omega arith)

  -- with a round open, each frame 0 closes the card
  going : (n k i : ℕ) (r : Reading) → Alternates r k → 0 < i → i ≤ r₀ → i % r₀ ≡ k % r₀
      → Goes c.identifier true (drop (2 * i) all) r.state g.end
      → Closes r k n (replicate (zeros r₀ k n) c)
  unfolding answers_to frames_from refusals closed_cards closed_by accepting
  going zero k i r ok p q e w = (refl, refl)
  going (suc n) k i r ok p q e w = by_case (going n (suc k)) (cases_lt i r₀)
    where
      by_case : ((i : ℕ) (r : Reading) → Alternates r (suc k) → 0 < i → i ≤ r₀ → i % r₀ ≡ suc k % r₀
          → Goes c.identifier true (drop (2 * i) all) r.state g.end
          → Closes r (suc k) n (replicate (zeros r₀ (suc k) n) c))
          → (i < r₀) ⊎ (r₀ ≤ i) → Closes r k (suc n) (replicate (zeros r₀ k (suc n)) c)
      by_case more (inl h) =
          let here : k % r₀ ≡ i = sym e ∙ mod-eq_of_lt h in
          let v = on_walk r k i ok h w in
          let r' = (accepting r (k % 2) v.0 taken).after in
          let z : zeros r₀ k (suc n) ≡ zeros r₀ (suc k) n = not_yet k n (λ o. omega arith) in
          subst (λ (m : ℕ). Closes r k (suc n) (replicate m c)) (sym z)
          (one_on r k n i v.0 taken (replicate (zeros r₀ (suc k) n) c) here v.1
          (more (suc i) r' (alternate r k v.0 taken) (omega arith) h (onward k i e) v.2))
      by_case more (inr h) =
          let j : i ≡ r₀ = omega arith in
          let here : k % r₀ ≡ 0 = sym e ∙ ap (λ (m : ℕ). m % r₀) j ∙ mod_self r₀ in
          let d : drop (2 * i) all ≡ [] = drop_all (2 * i) all (omega (arith, g.frames)) in
          let u : r.state ≡ g.end = subst (λ (l : List Content). Goes c.identifier true l r.state g.end) d w in
          let r' = (accepting r (k % 2) g.start (closed c)).after in
          let z : zeros r₀ k (suc n) ≡ suc (zeros r₀ (suc k) n) = once k n here in
          subst (λ (m : ℕ). Closes r k (suc n) (replicate m c)) (sym z)
          (one_on r k n 0 g.start (closed c) (replicate (zeros r₀ (suc k) n) c) here (on_close r k ok u)
          (more 1 r' (alternate r k g.start (closed c)) (omega arith) some (onward k 0 (zero-mod r₀ ∙ sym here)) g.goes))

  -- with none open, the first opens it
  coming : (n k : ℕ) (r : Reading) → Alternates r k → r.state ≡ waiting → Closes r k n (replicate (zeros r₀ k n - 1) c)
  unfolding answers_to frames_from refusals closed_cards closed_by accepting
  coming zero k r ok w = (refl, refl)
  coming (suc n) k r ok w = by_case (coming n (suc k)) (cases_eq (k % r₀) 0)
    where
      by_case : ((r : Reading) → Alternates r (suc k) → r.state ≡ waiting → Closes r (suc k) n (replicate (zeros r₀ (suc k) n - 1) c))
          → (k % r₀ ≡ 0) ⊎ (k % r₀ ≡ 0 → ⊥) → Closes r k (suc n) (replicate (zeros r₀ k (suc n) - 1) c)
      by_case more (inl here) =
          let r' = (accepting r (k % 2) g.start taken).after in
          let z : zeros r₀ k (suc n) - 1 ≡ zeros r₀ (suc k) n = omega (arith, once k n here) in
          subst (λ (m : ℕ). Closes r k (suc n) (replicate m c)) (sym z)
          (one_on r k n 0 g.start taken (replicate (zeros r₀ (suc k) n) c) here (on_open r k ok w)
          (going n (suc k) 1 r' (alternate r k g.start taken) (omega arith) some (onward k 0 (zero-mod r₀ ∙ sym here)) g.goes))
      by_case more (inr h) =
          let r' = (accepting r (k % 2) waiting passed_over).after in
          let z : zeros r₀ k (suc n) ≡ zeros r₀ (suc k) n = not_yet k n h in
          subst (λ (m : ℕ). Closes r k (suc n) (replicate (m - 1) c)) (sym z)
          (one_on r k n (k % r₀) waiting passed_over (replicate (zeros r₀ (suc k) n - 1) c) refl
          (on_pass r k (k % r₀) ok (omega arith) (mod-lt k some) w)
          (more r' (alternate r k waiting passed_over) refl))

  two : (k : ℕ) → Closes fresh k (2 * round_length c) (c ∷ [])
  unfolding repeats
  two k = subst (λ (m : ℕ). Closes fresh k (2 * r₀) (replicate (m - 1) c)) (zeros_two r₀ k some) (coming (2 * r₀) k fresh refl refl)

-- every lawful card has such a sequence
going_of : (c : CardValue) → Lawful c → Going c
going_of c a = from (ended_by false (field_sets c)) refl goes.1
  where
    walk : (m : ℕ) × Walk c.identifier (field_sets c) (opened (blank c.identifier) 0) (opened c m)
    walk = walk_sets c a

    goes : (u : State) × Goes c.identifier false (ended_by false (field_sets c)) (opened (blank c.identifier) 0) u × Whole c u
    goes = goes_from false c walk.0 (field_sets c) (opened (blank c.identifier) 0) walk.1

    laws : SequenceLaws c
    laws = sequence_laws c a

    from : (l : List Content) → ended_by false (field_sets c) ≡ l → Goes c.identifier false l (opened (blank c.identifier) 0) goes.0
        → Going c
    from [] e w = absurd w
    from (y ∷ ys) e w =
        let is : sequence c ≡ marker ∷ y ∷ ys = sequence_is c ∙ ap (λ (l : List Content). marker ∷ l) e in
        let n : length (sequence c) ≡ suc (suc (length ys)) = ap length is in
        record {
          lawful = a.identifier;
          second = y;
          others = ys;
          is = is;
          start = w.0;
          end = goes.0;
          opens = w.1;
          goes = w.2;
          whole = goes.2;
          frames = omega (arith, n, laws.even);
        }

pub two_rounds : TwoRounds
two_rounds c a k = let p = two c (going_of c a) k in record { accepted = p.0; closes = p.1 }

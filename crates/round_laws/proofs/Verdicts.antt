-- Each half of a round is in order, or breaks the rule that its refusal stands for.
use Rattle.std.proofs.Common.{◌≡◌, ℕ, suc, ◌+◌, ◌<◌, ◌≤◌, Bool, true, false, cond, ◌&&◌, ◌||◌, eqb, ltb, ◌⊎◌, List, [], ◌∷◌, ◌++◌, length, Some, None, Ok, Err, Option, Result, sym, refl, ap, ◌∙◌, subst, inl, inr, append_assoc, arith}
use Rattle.std.proofs.lemmas.List.{append-nil, length_push}
use Rattle.std.proofs.lemmas.Bool.{eqb-true, eqb-false, ltb-true, ltb-false, and_parts, and_cases, or_cases, eq-eqb, ne_eqb, cond-true, cond-false, cases_lt, cases_eq, both_ways}
use Rattle.card.specs.Card.{CardValue, Lawful}
use Rattle.content.specs.Kind.{taken_apart}
use Rattle.content.specs.Laws.{words_under}
use Rattle.content.specs.Sequence.{numbered, marker, field_sets}
use Rattle.content.specs.declared.entry.Content.{Content}
use Rattle.content.proofs.Sequences.{numbered_push}
use Rattle.round.specs.Rounds.{State, begins, completes, stored, filled, joined, marked, advanced}
use Rattle.round.specs.Rounds.State.{waiting, opened, unfinished, closing}
use Rattle.round.specs.declared.refusal.TakeRefusal.{TakeRefusal}
use Rattle.round.specs.declared.refusal.TakeRefusal.TheVariants.{ContentId, NoValue, BrokenOff}
use Rattle.round_laws.specs.HalfRules.{last_id, Unfinished, BeginsSet, BreaksOff, Misplaced, OutOfOrder, Valueless, Breaks}
use Rattle.round_laws.specs.HalfRules.Misplaced.{not_above_last, skips_in_set, enters_set_late, follows_closing, above_twelve}
use Rattle.round_laws.specs.HalfRules.Valueless.{no_marker, no_latitude, no_longitude, no_telephone, no_message}
use Rattle.round_laws.specs.HalfRules.Breaks.{breaks_off, out_of_order, valueless}
use Rattle.round_laws.proofs.Contents.{last_push, under_push, under_skip}
use Rattle.round_laws.proofs.Sets.{Field, latitude_field, longitude_field, telephone_field, message_field}
use Rattle.round_laws.proofs.Follows.{Above, NoneAbove, Rests, Begun, Follows, Verdict, Extends, latitude_extends, longitude_extends, telephone_extends, message_extends}

-- a half with no fault breaks no rule
in_order_lem : (half : ℕ) (xs : List Content) (x : Content) → (BreaksOff xs x → ⊥) → (OutOfOrder xs x → ⊥) → (Valueless xs x → ⊥)
    → (e : TakeRefusal) → Breaks half xs x e → ⊥
in_order_lem half xs x a b c e (breaks_off h) = a h
in_order_lem half xs x a b c e (out_of_order h) = b h
in_order_lem half xs x a b c e (valueless p q h) = c h

module _ {V : Type 0} (f : Field V) (ext : Extends f) (d : List ℕ) (half : ℕ) (c : CardValue) (lawful : Lawful c)
    (identified : c.identifier ≡ d)
    (inject : (last : ℕ) (ws : List ℕ) (xs : List Content) → Begun f c last ws xs → Follows d (unfinished c last ws) xs) where
  -- a word that is in order joins its set
  joining : (before : ℕ) (ws : List ℕ) (x : Content) (xs : List Content) → before < f.first → Above c before
      → x.id ≡ f.first + length ws → x.id ≤ f.last
      → xs ≡ (marker ∷ field_sets c) ++ numbered f.first ws → words_under f.first f.last xs ≡ ws → NoneAbove x.id xs
      → (OutOfOrder xs x → ⊥)
      → Verdict d half xs x (joined half c x.id (ws ++ (x.word ∷ [])))
  unfolding joined stored
  joining before ws x xs b a e le hs un na ord = by_case (cases_lt x.id f.last)
    where
      ws' : List ℕ
      ws' = ws ++ (x.word ∷ [])

      xs' : List Content
      xs' = xs ++ (x ∷ [])

      at : ℕ → Content
      at id = record { id = id; word = x.word }

      carries : xs' ≡ (marker ∷ field_sets c) ++ numbered f.first ws'
      carries =
          ap (λ (l : List Content). l ++ (x ∷ [])) hs
          ∙ append_assoc (marker ∷ field_sets c) (numbered f.first ws) (x ∷ [])
          ∙ ap (λ (id : ℕ). (marker ∷ field_sets c) ++ (numbered f.first ws ++ (at id ∷ []))) e
          ∙ ap (λ (l : List Content). (marker ∷ field_sets c) ++ l) (sym (numbered_push f.first ws x.word))

      words : words_under f.first f.last xs' ≡ ws'
      words = under_push f.first f.last xs x (omega arith) le ∙ ap (λ (l : List ℕ). l ++ (x.word ∷ [])) un

      none_above : NoneAbove x.id xs'
      none_above low high h = under_skip low high xs x h ∙ na low high h

      not_zero : x.id ≡ 0 → ⊥
      not_zero z = omega (arith, ext.set.some)

      by_value : x.id ≡ f.last → (o : Option V) → taken_apart f.kind ws' ≡ o → Verdict d half xs x (joined half c x.id ws')
      by_value j o h = go o h (ap (λ (id : ℕ). joined half c id ws') j
          ∙ cond-true (completes f.last) (filled half c f.last ws') (Ok (unfinished c f.last ws')) ext.set.ending
          ∙ ext.set.fills half c ws' ∙ ap (stored half f.last (λ v. f.put (Some v) c)) h)
        where
          go : (o : Option V) → taken_apart f.kind ws' ≡ o → joined half c x.id ws' ≡ stored half f.last (λ v. f.put (Some v) c) o
              → Verdict d half xs x (joined half c x.id ws')
          go None h is =
              inr (
                NoValue half x.id,
                is ∙ ap (λ (id : ℕ). Err (NoValue half id)) (sym j),
                valueless (λ p. not_zero p.zero) ord (ext.from_none xs x j (λ v l w. (ext.set.rule.none ws').0 h v l (w ∙ words))),
              )
          go (Some v) h is =
              let p = (ext.set.rule.some ws' v).0 h in
              inl (
                opened (f.put (Some v) c) f.last,
                is,
                (
                  ext.lawful c v lawful p.0,
                  ext.set.keeps (Some v) c ∙ identified,
                  record {
                    carries = carries ∙ ap (λ (l : List Content). marker ∷ l)
                        (sym (ext.longer c before v a b ∙ ap (λ (l : List ℕ). field_sets c ++ numbered f.first l) p.1));
                    above = ext.above c before v a b;
                    last_is = last_push xs x ∙ j;
                    whole = ext.rests;
                    alone = λ q z. not_zero (j ∙ z);
                    none_above = λ low high q. none_above low high (omega arith);
                  },
                ),
                in_order_lem half xs x (λ q. not_zero q.zero) ord (λ u. ext.no_value xs x j u v p.0 (p.1 ∙ sym words)),
              )

      by_case : (x.id < f.last) ⊎ (f.last ≤ x.id) → Verdict d half xs x (joined half c x.id ws')
      by_case (inl lt) =
          inl (
            unfinished c x.id ws',
            cond-false (completes x.id) (filled half c x.id ws') (Ok (unfinished c x.id ws'))
                (ext.set.inside x.id (omega arith) lt),
            inject x.id ws' xs' (record {
              before = before;
              below = b;
              above = a;
              from = omega arith;
              short = lt;
              many = omega (arith, length_push ws x.word);
              carries = carries;
              last_is = last_push xs x;
              under = words;
              none_above = none_above;
            }),
            in_order_lem half xs x (λ p. not_zero p.zero) ord (ext.quiet xs x (omega arith) lt),
          )
      by_case (inr ge) = by_value (omega arith) (taken_apart f.kind ws') refl

-- the first IDs of sets, as the test has them
which : (id : ℕ) → begins id ≡ true → BeginsSet id
unfolding begins
which id h = first (or_cases (eqb id 1) (eqb id 2 || (eqb id 3 || eqb id 6)) h)
  where
    third : (eqb id 3 ≡ true) ⊎ (eqb id 6 ≡ true) → BeginsSet id
    third (inl e) = inr (inr (inl (eqb-true id 3 e)))
    third (inr e) = inr (inr (inr (eqb-true id 6 e)))

    second : (eqb id 2 ≡ true) ⊎ ((eqb id 3 || eqb id 6) ≡ true) → BeginsSet id
    second (inl e) = inr (inl (eqb-true id 2 e))
    second (inr e) = third (or_cases (eqb id 3) (eqb id 6) e)

    first : (eqb id 1 ≡ true) ⊎ ((eqb id 2 || (eqb id 3 || eqb id 6)) ≡ true) → BeginsSet id
    first (inl e) = inl (eqb-true id 1 e)
    first (inr e) = second (or_cases (eqb id 2) (eqb id 3 || eqb id 6) e)

none_of : (id : ℕ) → begins id ≡ false → BeginsSet id → ⊥
unfolding begins
none_of id h (inl e) = both_ways (begins 1) (sym (ap begins e) ∙ h) refl
none_of id h (inr (inl e)) = both_ways (begins 2) (sym (ap begins e) ∙ h) refl
none_of id h (inr (inr (inl e))) = both_ways (begins 3) (sym (ap begins e) ∙ h) refl
none_of id h (inr (inr (inr e))) = both_ways (begins 6) (sym (ap begins e) ∙ h) refl

-- ID 0 where nothing is unfinished
pub zero_half : (half : ℕ) (xs : List Content) (x : Content) (s : State) → x.id ≡ 0 → (Unfinished (last_id xs) → ⊥)
    → ((x ≡ marker) × (marked half x.word s ≡ Ok s) × ((e : TakeRefusal) → Breaks half xs x e → ⊥))
    ⊎ ((e : TakeRefusal) × (marked half x.word s ≡ Err e) × Breaks half xs x e)
unfolding marked
zero_half half xs x s z nu = by_word (cases_eq x.word 1)
  where
    by_word : (x.word ≡ 1) ⊎ (x.word ≡ 1 → ⊥)
        → ((x ≡ marker) × (marked half x.word s ≡ Ok s) × ((e : TakeRefusal) → Breaks half xs x e → ⊥))
        ⊎ ((e : TakeRefusal) × (marked half x.word s ≡ Err e) × Breaks half xs x e)
    by_word (inl w) =
        inl (
          (λ i. record { id = z i; word = w i }),
          cond-true (eqb x.word 1) (Ok s) (Err (NoValue half 0)) (eq-eqb x.word 1 w),
          in_order_lem half xs x (λ p. nu p.unfinished) (λ p. p.other z) (λ v. elim v [
            | no_marker q h ↦ h w
            | no_latitude q h ↦ omega arith
            | no_longitude q h ↦ omega arith
            | no_telephone q h ↦ omega arith
            | no_message q h ↦ omega arith
          ]),
        )
    by_word (inr n) =
        inr (
          NoValue half x.id,
          cond-false (eqb x.word 1) (Ok s) (Err (NoValue half 0)) (ne_eqb x.word 1 n)
              ∙ ap (λ (id : ℕ). Err (NoValue half id)) (sym z),
          valueless (λ p. nu p.unfinished) (λ p. p.other z) (no_marker z n),
        )

-- ID 0 where something is
pub broken_off : (half : ℕ) (xs : List Content) (x : Content) → x.id ≡ 0 → Unfinished (last_id xs)
    → (e : TakeRefusal) × (◌≡◌ {A = Result State TakeRefusal} (Err (BrokenOff half x.id)) (Err e)) × Breaks half xs x e
broken_off half xs x z u = (BrokenOff half 0, ap (λ (id : ℕ). Err (BrokenOff half id)) z, breaks_off (record { zero = z; unfinished = u }))

-- the same verdict on an equal result
at_result : (d : List ℕ) (half : ℕ) (xs : List Content) (x : Content) (r s : Result State TakeRefusal) → r ≡ s → Verdict d half xs x s
    → Verdict d half xs x r
at_result d half xs x r s e v = subst (λ (t : Result State TakeRefusal). Verdict d half xs x t) (sym e) v

-- a half where every set is whole
resting : (d : List ℕ) (half : ℕ) (c : CardValue) (last : ℕ) (xs : List Content) (x : Content) → Lawful c → c.identifier ≡ d
    → Rests c last xs
    → Verdict d half xs x (advanced half (opened c last) x)
unfolding advanced numbered
resting d half c last xs x lawful identified r = by_id (cases_eq x.id 0)
  where
    nu : Unfinished (last_id xs) → ⊥
    nu u = r.whole (subst Unfinished r.last_is u)

    begun : {V : Type 0} (f : Field V) → Extends f
        → ((last : ℕ) (ws : List ℕ) (ys : List Content) → Begun f c last ws ys → Follows d (unfinished c last ws) ys)
        → x.id ≡ f.first → last < x.id → (OutOfOrder xs x → ⊥) → Verdict d half xs x (joined half c x.id (x.word ∷ []))
    begun f ext inject e lt ord =
        joining f ext d half c lawful identified inject last [] x xs (omega arith) r.above (omega arith)
        (omega (arith, ext.set.order)) (r.carries ∙ sym (append-nil (marker ∷ field_sets c)))
        (r.none_above f.first f.last (omega arith)) (λ low high h. r.none_above low high (omega arith)) ord

    by_set : BeginsSet x.id → last < x.id → (OutOfOrder xs x → ⊥) → Verdict d half xs x (joined half c x.id (x.word ∷ []))
    by_set (inl e) lt ord = begun latitude_field latitude_extends (λ m ws ys b. absurd (omega (arith, b.from, b.short))) e lt ord
    by_set (inr (inl e)) lt ord = begun longitude_field longitude_extends (λ m ws ys b. absurd (omega (arith, b.from, b.short))) e lt ord
    by_set (inr (inr (inl e))) lt ord = begun telephone_field telephone_extends (λ m ws ys b. (lawful, identified, inl b)) e lt ord
    by_set (inr (inr (inr e))) lt ord = begun message_field message_extends (λ m ws ys b. (lawful, identified, inr b)) e lt ord

    ordered : BeginsSet x.id → last < x.id → OutOfOrder xs x → ⊥
    ordered b lt o = placed o.misplaced
      where
        top : BeginsSet x.id → x.id ≤ 6
        top (inl e) = omega arith
        top (inr (inl e)) = omega arith
        top (inr (inr (inl e))) = omega arith
        top (inr (inr (inr e))) = omega arith

        placed : Misplaced xs x.id → ⊥
        placed (not_above_last h) = omega (arith, r.last_is)
        placed (skips_in_set u h) = nu u
        placed (enters_set_late h k) = k b
        placed (follows_closing m h) = r.alone m (sym r.last_is ∙ h)
        placed (above_twelve h) = omega (arith, top b)

    late : (ltb last x.id ≡ false) ⊎ (begins x.id ≡ false) → Misplaced xs x.id
    late (inl h) = not_above_last (omega (arith, ltb-false last x.id h, r.last_is))
    late (inr h) = enters_set_late nu (none_of x.id h)

    closing_half : (x.id ≡ 0)
        → ((x ≡ marker) × (marked half x.word (closing c) ≡ Ok (closing c)) × ((e : TakeRefusal) → Breaks half xs x e → ⊥))
        ⊎ ((e : TakeRefusal) × (marked half x.word (closing c) ≡ Err e) × Breaks half xs x e)
        → Verdict d half xs x (marked half x.word (closing c))
    closing_half z (inl v) =
        inl (
          closing c,
          v.1,
          (
            lawful,
            identified,
            record {
              carries = ap (λ (l : List Content). l ++ (x ∷ [])) r.carries ∙ ap (λ (y : Content). (marker ∷ field_sets c) ++ (y ∷ [])) v.0;
              last_is = last_push xs x ∙ z;
              more = omega (arith, length_push xs x, ap length r.carries);
            },
          ),
          v.2,
        )
    closing_half z (inr v) = inr v

    by_test : (x.id ≡ 0 → ⊥) → (b : Bool) → (ltb last x.id && begins x.id) ≡ b
        → Verdict d half xs x (cond b (joined half c x.id (x.word ∷ [])) (Err (ContentId half x.id)))
    by_test n true h =
        let p = and_parts (ltb last x.id) (begins x.id) h in
        let b = which x.id p.1 in
        let lt = ltb-true last x.id p.0 in
        by_set b lt (ordered b lt)
    by_test n false h = inr (
      ContentId half x.id,
      refl,
      out_of_order (record { other = n; misplaced = late (and_cases (ltb last x.id) (begins x.id) h) }),
    )

    by_id : (x.id ≡ 0) ⊎ (x.id ≡ 0 → ⊥) → Verdict d half xs x (advanced half (opened c last) x)
    by_id (inl z) =
        at_result d half xs x _ (marked half x.word (closing c))
        (cond-true (eqb x.id 0) (marked half x.word (closing c)) _ (eq-eqb x.id 0 z))
        (closing_half z (zero_half half xs x (closing c) z nu))
    by_id (inr n) =
        at_result d half xs x _ (cond (ltb last x.id && begins x.id) (joined half c x.id (x.word ∷ []))
        (Err (ContentId half x.id)))
        (cond-false (eqb x.id 0) (marked half x.word (closing c)) _ (ne_eqb x.id 0 n))
        (by_test n (ltb last x.id && begins x.id) refl)

-- a half where a set is unfinished
module _ {V : Type 0} (f : Field V) (ext : Extends f) (d : List ℕ) (half : ℕ) (c : CardValue) (last : ℕ) (ws : List ℕ) (xs : List Content)
    (lawful : Lawful c) (identified : c.identifier ≡ d)
    (inject : (last : ℕ) (ws : List ℕ) (xs : List Content) → Begun f c last ws xs → Follows d (unfinished c last ws) xs)
    (short : f.last ≤ 12)
    (b : Begun f c last ws xs) (u : Unfinished (last_id xs)) where
  continuing : (x : Content) → Verdict d half xs x (advanced half (unfinished c last ws) x)
  unfolding advanced
  continuing x = by_id (cases_eq x.id 0)
    where
      ordered : x.id ≡ suc last → OutOfOrder xs x → ⊥
      ordered e o = placed o.misplaced
        where
          placed : Misplaced xs x.id → ⊥
          placed (not_above_last h) = omega (arith, b.last_is)
          placed (skips_in_set q h) = h (omega (arith, b.last_is))
          placed (enters_set_late h k) = h u
          placed (follows_closing m h) = omega (arith, b.last_is, b.from, ext.set.some)
          placed (above_twelve h) = omega (arith, b.short)

      by_test : (x.id ≡ 0 → ⊥) → (t : Bool) → eqb x.id (suc last) ≡ t
          → Verdict d half xs x (cond t (joined half c x.id (ws ++ (x.word ∷ []))) (Err (ContentId half x.id)))
      by_test n true h =
          let e : x.id ≡ suc last = eqb-true x.id (suc last) h in
          joining f ext d half c lawful identified inject b.before ws x xs b.below b.above (e ∙ b.many) (omega (arith, b.short))
          b.carries b.under
          (λ low high q. b.none_above low high (omega arith)) (ordered e)
      by_test n false h =
          inr (
            ContentId half x.id,
            refl,
            out_of_order (record {
              other = n;
              misplaced = skips_in_set u (λ e. eqb-false x.id (suc last) h (e ∙ ap suc b.last_is));
            }),
          )

      by_id : (x.id ≡ 0) ⊎ (x.id ≡ 0 → ⊥) → Verdict d half xs x (advanced half (unfinished c last ws) x)
      by_id (inl z) =
          at_result d half xs x _ (Err (BrokenOff half x.id))
          (cond-true (eqb x.id 0) (Err (BrokenOff half x.id)) _ (eq-eqb x.id 0 z))
          (inr (broken_off half xs x z u))
      by_id (inr n) =
          at_result d half xs x _ (cond (eqb x.id (suc last)) (joined half c x.id (ws ++ (x.word ∷ [])))
          (Err (ContentId half x.id)))
          (cond-false (eqb x.id 0) (Err (BrokenOff half x.id)) _ (ne_eqb x.id 0 n))
          (by_test n (eqb x.id (suc last)) refl)

-- a set that was begun is unfinished
telephone_unfinished : {c : CardValue} {last : ℕ} {ws : List ℕ} {xs : List Content} → Begun telephone_field c last ws xs
    → Unfinished (last_id xs)
telephone_unfinished b = inl (omega (arith, b.last_is, b.from), omega (arith, b.last_is, b.short))

message_unfinished : {c : CardValue} {last : ℕ} {ws : List ℕ} {xs : List Content} → Begun message_field c last ws xs → Unfinished (last_id xs)
message_unfinished b = inr (omega (arith, b.last_is, b.from), omega (arith, b.last_is, b.short))

-- a state says what the last ID is
pub unfinished_after : {d : List ℕ} {c : CardValue} {last : ℕ} {ws : List ℕ} {xs : List Content} → Follows d (unfinished c last ws) xs
    → Unfinished (last_id xs)
unfinished_after f = elim f.2 [ inl b ↦ telephone_unfinished b | inr b ↦ message_unfinished b ]

-- a half in an open round; with ID 0 it does not follow the closing 0
pub verdict : (d : List ℕ) (half : ℕ) (s : State) (xs : List Content) (x : Content) → Follows d s xs → (xs ≡ [] → ⊥)
    → (x.id ≡ 0 → 1 < length xs → last_id xs ≡ 0 → ⊥)
    → Verdict d half xs x (advanced half s x)
unfolding advanced
verdict d half waiting xs x f some new = absurd (some f)
verdict d half (opened c last) xs x f some new = resting d half c last xs x f.0 f.1 f.2
verdict d half (unfinished c last ws) xs x f some new = by_set f.2
  where
    by_set : Begun telephone_field c last ws xs ⊎ Begun message_field c last ws xs
        → Verdict d half xs x (advanced half (unfinished c last ws) x)
    by_set (inl b) = continuing telephone_field telephone_extends d half c last ws xs f.0 f.1 (λ m vs ys g. (f.0, f.1, inl g))
        (omega arith) b (telephone_unfinished b) x
    by_set (inr b) = continuing message_field message_extends d half c last ws xs f.0 f.1 (λ m vs ys g. (f.0, f.1, inr g))
        (omega arith) b (message_unfinished b) x
verdict d half (closing c) xs x f some new =
    inr (
      ContentId half x.id,
      refl,
      out_of_order (record {
        other = λ z. new z f.2.more f.2.last_is;
        misplaced = follows_closing f.2.more f.2.last_is;
      }),
    )

use Rattle.std.proofs.Common.{ℕ, ◌+◌, cond, get_or, Ok, Err, Result, ap, sym, ◌∙◌, ap₂, arith}
use Rattle.std.proofs.lemmas.Result.{err_from_is_err_and}
use Rattle.card.specs.Fields.{is_symbol, symbol_code}
use Rattle.card.specs.declared.refusal.CardRefusal.{CardRefusal}
use Rattle.card.specs.declared.refusal.CardRefusal.TheVariants.{TelephoneSymbol}
use Rattle.card.proofs.Scans.{one_more, refused_at, accepted_all, test_held, test_failed}
use Rattle.card.proofs.checking.check_symbols.Goals as goal

-- what is answered of a symbol at a place
abbrev answered_at : ℕ → ℕ → Result ℕ CardRefusal
answered_at x place = cond (is_symbol x) (Ok (symbol_code x)) (Err (TelephoneSymbol place))

pub returns-in_err-symbol_code : goal.returns-in_err-symbol_code
returns-in_err-symbol_code c =
    let xs = c.args.symbols.now in
    let i = c.loop-index.index in
    let x = get_or xs i 0 in
    let p = err_from_is_err_and c.from_residual.result c.from_residual.ensures.1 in
    let e = c.symbol_code.ensures ∙ ap₂ answered_at c.from.ensures c.place_at.ensures in
    let t = test_failed (is_symbol x) (symbol_code x) (TelephoneSymbol (i + 1)) _ c.symbol_code.result e c.in_err-symbol_code.was in
    p.1 ∙ ap Err (p.2 ∙ sym t.1) ∙ refused_at TelephoneSymbol is_symbol xs i c.loop-index.invariant (omega arith) t.0

pub loop-index-preserved : goal.loop-index-preserved
loop-index-preserved c =
    let xs = c.args.symbols.now in
    let i = c.loop-index.index in
    let x = get_or xs i 0 in
    let e = c.symbol_code.ensures ∙ ap₂ answered_at c.from.ensures c.place_at.ensures in
    let t = test_held (is_symbol x) (symbol_code x) _ (TelephoneSymbol (i + 1)) c.symbol_code.result e c.in_ok-symbol_code.was in
    one_more TelephoneSymbol is_symbol xs i c.loop-index.invariant (omega arith) t

pub returns : goal.returns
returns c = accepted_all TelephoneSymbol is_symbol c.args.symbols.now c.loop-index.index c.loop-index.invariant (omega arith)

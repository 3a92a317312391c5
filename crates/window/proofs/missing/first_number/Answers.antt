-- `window::first` meets its contract: what the look along the range finds.
-- Assumes nothing.
use mathlib.Core.Path.{◌≡◌, ◌∙◌, sym}
use mathlib.Core.Bool.{true, false}
use borrow.Author.Rules.{rules}
use borrow.Author.Tests.{tests}
use Rattle.std.proofs.lemmas.Iterator.{first_from_Range}
use Rattle.window.specs.Runs.{missing_is}
use Rattle.window.proofs.FirstNumber.{found_first, is_wanted}
use Rattle.window.proofs.missing.first_number.Goals as goal

pub returns : goal.returns
returns c =
    let w = c.args.window.now in
    let wanted = c.args.wanted in
    found_first (missing_is w wanted) c.find.result c.requires
    (first_from_Range _ _ _ c.find.result (λ k. missing_is w wanted k ≡ true) (λ k. missing_is w wanted k ≡ false) c.find.ensures.ran (λ k q h. sym (is_wanted w wanted k) ∙ search (rules, tests)) (λ k q h. (search rules, sym (is_wanted w wanted k) ∙ search (rules, tests))))
    c.unwrap_or.ensures

-- The inside where the index has its symbol.
-- Assumes nothing.
use mathlib.Core.Path.{ap, sym, ◌∙◌}
use Rattle.std.specs.Prelude.{Ok}
use Rattle.book.proofs.Answers.{inside_bad, inside_known, inside_none, inside_within}
use Rattle.session.proofs.Answers.{flag_small, inside_asked_lem, inside_there, lies, place_few, some_book, tabled}
use Rattle.session.proofs.asking.inside.Goals as goal

pub returns-then-not-good_symbol : goal.returns-then-not-good_symbol
returns-then-not-good_symbol c =
    let rule = c.requires.2 in
    inside_asked_lem rule _ (inside_bad (tabled rule) (lies rule).kept _ (sym c.good_symbol.ensures ∙ c.if-not-good_symbol.true))

pub returns-in_default : goal.returns-in_default
returns-in_default c =
    let rule = c.requires.2 in
    inside_asked_lem rule _ (inside_none (tabled rule) (lies rule).kept _ (sym c.good_symbol.ensures ∙ c.if-not-good_symbol.false) (c.held_at.ensures _ _ _ (lies c.requires.2)) c.in_default.is)

pub returns : goal.returns
returns c =
    let rule = c.requires.2 in
    let within = inside_within (tabled c.requires.2) (lies c.requires.2).kept _ (sym c.good_symbol.ensures ∙ c.if-not-good_symbol.false) (c.held_at.ensures _ _ _ (lies c.requires.2)) c.in-Some.is in
    inside_asked_lem rule _
    (ap Ok (c.inside_at.ensures ∙ inside_there rule within)
    ∙ inside_known (tabled rule) (lies rule).kept _ (sym c.good_symbol.ensures ∙ c.if-not-good_symbol.false) (c.held_at.ensures _ _ _ (lies c.requires.2)) c.in-Some.is)

pub held_at-requires : goal.held_at-requires
held_at-requires c = some_book c.requires.2

pub inside_at-requires : goal.inside_at-requires
inside_at-requires c =
    let within = inside_within (tabled c.requires.2) (lies c.requires.2).kept _ (sym c.good_symbol.ensures ∙ c.if-not-good_symbol.false) (c.held_at.ensures _ _ _ (lies c.requires.2)) c.in-Some.is in
    (place_few c.requires.2 within, flag_small c.requires.2 within)

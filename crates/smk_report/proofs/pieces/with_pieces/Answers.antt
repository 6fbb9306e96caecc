use Rattle.std.proofs.{Common.{◌≡◌, ℕ, Vec, Global, length, arith, rules}, lemmas.Grind.common_steps}
use Rattle.std.specs.List.{flat_map}
use Rattle.smk_model.specs.Texts.{row_lines_to}
use Rattle.smk_report.specs.PieceTexts.{number_in}
use Rattle.smk_report.proofs.PieceTexts.{pieces_joined}
use Rattle.smk_report.proofs.pieces.with_pieces.Goals as goal

pub returns : goal.returns
returns g c =
    let rows = c.args.rel.now.rows in
    let number = number_in c.args.rids in
    let all : flat_map (λ (piece : Vec ℕ Global). piece.items) c.in_ok-pieces.pieces.items ≡ row_lines_to number rows (length rows) =
    pieces_joined (λ (piece : Vec ℕ Global). piece.items) number rows c.args.count c.in_ok-pieces.pieces.items c.requires.some c.in_ok-pieces.ensures in
    rw (← all) (first_of (search rules, grind (arith, common_steps)))

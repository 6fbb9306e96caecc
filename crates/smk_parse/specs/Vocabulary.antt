-- The names of the libraries below that the files of this crate cite, passed on from one place. Declares nothing.
pub use Rattle.std.specs.{Char.is_ascii_digit, Int.w64, List.prefix_len}
pub use Rattle.smk_base.specs.{declared.fault.BookFault.TheVariants.{BadNumber, BadToken, NoMemory, TooMany, Unexpected}, declared.fault.Many.TheVariants.{Columns, NameBytes, Nodes}, declared.{fault.BookFault.BookFault, fault.LineFault.LineFault, fault.Many.Many, book.plan.CmpOp.CmpOp, book.token.TokenKind.TokenKind, book.tree.Book.Book, book.tree.Extra.Extra, book.tree.Line.Line, book.tree.LineSpan.LineSpan, book.tree.Lit.Lit, book.tree.Marks.Marks, book.tree.Stmt.Stmt, book.tree.Term.Term, book.tree.Then.Then, book.tree.Word.Word}, TreeImage.{any_image, ask_step_image, book_image, pred_image, step_image, stmt_image, tree_image}, Trees.{AskStepImage, StepImage, StmtImage}}
pub use Rattle.smk_model.specs.{Lines.{first_line, lines, lines_after, place_of, without_cr}, Tokens.{Begins, Between, Front, HasNoToken, Token, digits_value, front, head_of, inner, int_value, is_more, is_quoted_byte, is_word_byte, kind_in, minus_front, no_line_end, number_kind, or_equal, put, quoted_front, string_len, string_value, tail_of, tokens, tokens_from, undoubled, unequal_front}, LanguageTable.{append_rule, ask_rule, depends_rule, joint, link_rule, one_input, sign, step_rule, table_rule, view_rule}, Rules.{ACleared, AColumn, ADefault, AFirst, AKeys, ALine, ALineColumn, ALineName, ALineage, ALiteral, AMarked, AMarks, AName, ANames, APiped, APlan, APred, APrim, AConj, ASelected, ASource, AStep, ASteps, AStmts, ATerm, AThen, AToken, AType, AWhat, AWholeAnyLine, AWholeLine, AWidth, Aggregation, AnAggs, AnAnds, AnAs, AnAskStep, AnExtra, AnOn, AnOp, AnOrs, AnyLine, AskSteps, ColumnPair, Configuration, Declaration, Gives, KeyColumn, LinkedView, Listed, Member, MemberTree, More, One, OutputItem, PlanCounts, Reads, Rule, Symbol, Tree, no_counts, onward}, Spelled.{AreSelected, AreStmts, IsWholeAnyLine, IsWholeLine}, TokenReadings.{Reading, any_fault, book_fault, is_short, line_fault, no_tally, node_more, reads, runs, selected_fault, token_fault}}

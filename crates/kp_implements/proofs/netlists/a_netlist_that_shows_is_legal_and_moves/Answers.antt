use Rattle.kp_implements.proofs.netlists.a_netlist_that_shows_is_legal_and_moves.Goals as goal

-- src/laws.rt:21:1
pub returns-clause-moves : goal.returns-clause-moves
returns-clause-moves c net ins h q = c.what_shows_alike_is_legal_and_moves.ensures.moves _ _ (h.runs ins q)

-- src/laws.rt:21:1
pub returns-clause-stays : goal.returns-clause-stays
returns-clause-stays c net ins h q = c.what_shows_alike_is_legal_and_moves.ensures.stays _ _ (h.runs ins q)

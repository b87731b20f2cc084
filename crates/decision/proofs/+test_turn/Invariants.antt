use Rattle.decision.proofs.+test_turn.Given as goal

abbrev pub decreases-test : goal.decreases-test
decreases-test l = l.fuel

abbrev pub decreases-turn : goal.decreases-turn
decreases-turn l = l.fuel

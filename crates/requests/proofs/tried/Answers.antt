use Rattle.requests.proofs.tried.Goals as goal

pub returns : goal.returns
returns c =
    (_, c.ask_channels.ensures)

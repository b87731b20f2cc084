use Rattle.board.proofs.AddressLaws.{addresses}
use Rattle.board.proofs.SaveLaws.{saves}
use Rattle.board.proofs.LoadLaws.{loads}
use Rattle.board.proofs.RoundTripLaws.{round_trip}
use Rattle.board.proofs.HistoryLaws.{board-history}
use Rattle.board.proofs.histories.Goals as goal

pub returns : goal.returns
returns c =
    record { addresses = addresses; saves = saves; loads = loads; round_trip = round_trip loads; history = board-history }

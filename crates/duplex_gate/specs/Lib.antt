pub mod ConsensusGate

mod Current
mod Nodes
mod Orders
mod Puts
mod RowKeys
mod Segments
mod Sizes
mod Towards
